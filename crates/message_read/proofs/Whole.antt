-- What an accepted message is made of.
use mathlib.Core.Path.{◌≡◌, refl, ◌∙◌}
use mathlib.Core.Bool.{Bool, true, false}
use mathlib.Core.List.{List}
use Prim.Native.Nat.{ℕ, ◌+◌, ◌-◌, ◌≤◌}
use native.Mathlib.Omega.{arith}
use lib.Dec.{ltb}
use lib.ListN.{length, get_or, take, drop}
use borrow.Author.Tests.{ltb-false}
use Rattle.message_layout.specs.Tables.{layout_at, known_at}
use Rattle.protocol.specs.Numbers.{pick, be}
use Rattle.protocol.specs.Messages.{Layout, layout_of, MessageRead, unread, read, fields_read, message_end, body_read, MessageHead, head_short}
use Rattle.protocol.specs.Messages.{bad_length, body_short, body_whole, message_head, message_by, message_of, message_roomed}
use mathlib.Core.Option.{Option as Known, some, none}
use Rattle.std.specs.declared.option.Option.{Option}
use Rattle.std.specs.Prelude.{Some, None}

-- a test whose refusal was not given
past : (b : Bool) (n p : ℕ) (o : MessageRead) (u : ℕ) (ws : List ℕ) → pick b (unread n p) o ≡ read u ws → (b ≡ false) × (o ≡ read u ws)
unfolding pick
past true n p o u ws e = let z : ◌≡◌ {A = ℕ} 0 1 = cc in absurd (omega arith)
past false n p o u ws e = (refl, e)

-- a test of the head whose refusal was not given
beyond : (side : ℕ) (s : List ℕ) (b : Bool) (x h : MessageHead) (n p : ℕ) → message_by side s x ≡ unread n p → (u : ℕ) (ws : List ℕ) → message_by side s (pick b x h) ≡ read u ws
    → (b ≡ false) × (message_by side s h ≡ read u ws)
unfolding pick
beyond side s true x h n p d u ws e = let z : ◌≡◌ {A = ℕ} 0 1 = cc in absurd (omega arith)
beyond side s false x h n p d u ws e = (refl, e)

-- an accepted body: its fields, with nothing left over
pub record Body (l : Layout) (m : List ℕ) (u : ℕ) (ws : List ℕ) : Type 0 where
  pub outcome : fields_read l m 5 ≡ read u ws
  pub end : length m ≤ u

ended : (l : Layout) (m : List ℕ) (o : MessageRead) (u : ℕ) (ws : List ℕ) → fields_read l m 5 ≡ o → message_end m o ≡ read u ws → Body l m u ws
unfolding message_end
ended l m (unread n p) u ws f e = let z : ◌≡◌ {A = ℕ} 0 1 = cc in absurd (omega arith)
ended l m (read at vs) u ws f e =
    let a = past (ltb at (length m)) 5 at (read at vs) u ws e in
    let q : at ≡ u = cc a.1 in
    record { outcome = f ∙ a.1; end = omega (arith, ltb-false at (length m) a.0) }

-- a known type, by the position of its layout
pub known_layout : (r : Option ℕ) (k : Known Layout) (l : Layout) → known_at r ≡ k → k ≡ some l → (p : ℕ) × (r ≡ Some p) × (layout_at p ≡ l)
unfolding known_at
known_layout (Some p) k l e f = (p, refl, cc)
known_layout None k l e f = let z : ◌≡◌ {A = ℕ} 0 1 = cc in absurd (omega arith)

embodied : (k : Known Layout) (m : List ℕ) (u : ℕ) (ws : List ℕ) → body_read k m ≡ read u ws → (l : Layout) × (k ≡ some l) × Body l m u ws
unfolding body_read
embodied none m u ws e = let z : ◌≡◌ {A = ℕ} 0 1 = cc in absurd (omega arith)
embodied (some l) m u ws e = (l, refl, ended l m (fields_read l m 5) u ws refl e)

-- an accepted message: its length field n, its layout, and its body
pub record Whole (side : ℕ) (s : List ℕ) (n u : ℕ) (ws : List ℕ) : Type 0 where
  pub size : n ≡ be (take 4 (drop 1 s))
  pub long : 5 ≤ length s
  pub low : 4 ≤ n
  pub high : n ≤ 65535
  pub fits : n + 1 ≤ length s
  pub layout : Layout
  pub kind : layout_of side (get_or s 0 0) ≡ some layout
  pub body : Body layout (take (n + 1) s) u ws

pub whole : (side : ℕ) (s : List ℕ) (u : ℕ) (ws : List ℕ) → message_of side s ≡ read u ws → Whole side s (be (take 4 (drop 1 s))) u ws
unfolding message_of message_by message_head
whole side s u ws e =
    let n = be (take 4 (drop 1 s)) in
    let a = beyond side s (ltb (length s) 5) (head_short (5 - length s)) _ 1 0 refl u ws e in
    let b = beyond side s (ltb n 4) bad_length _ 2 0 refl u ws a.1 in
    let c = beyond side s (ltb 65535 n) bad_length _ 2 0 refl u ws b.1 in
    let d = beyond side s (ltb (length s) (n + 1)) (body_short (n + 1) (n + 1 - length s)) (body_whole (n + 1)) 1 0 refl u ws c.1 in
    let f = embodied (layout_of side (get_or s 0 0)) (take (n + 1) s) u ws d.1 in
    record {
      size = refl;
      long = ltb-false (length s) 5 a.0;
      low = ltb-false n 4 b.0;
      high = ltb-false 65535 n c.0;
      fits = ltb-false (length s) (n + 1) d.0;
      layout = f.0;
      kind = f.1;
      body = f.2;
    }

-- what the call reads, the message is, and its list has room
pub roomy : (o : MessageRead) (room u : ℕ) (ws : List ℕ) → message_roomed room o ≡ read u ws → (o ≡ read u ws) × (length ws ≤ room)
unfolding message_roomed
roomy (unread n p) room u ws e = let z : ◌≡◌ {A = ℕ} 0 1 = cc in absurd (omega arith)
roomy (read at vs) room u ws e =
    let a = past (ltb room (length vs)) 31 0 (read at vs) u ws e in
    let q : vs ≡ ws = cc a.1 in
    (a.1, rw q at (ltb-false room (length vs) a.0))
