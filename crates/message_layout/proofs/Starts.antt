-- The layout at a type byte's start is the one that the side knows for it.
use mathlib.Core.Path.{◌≡◌, refl, ap, sym, ◌∙◌}
use mathlib.Core.Bool.{Bool, true, false}
use Prim.Native.Nat.{ℕ, ◌<◌}
use lib.Dec.{eqb}
use Rattle.message_layout.specs.Tables.{known_at, layout_at, layouts, codes, entry, field_of, width_of, values_of, widths, firsts, allowed_of, values, server_start, client_start, start_of}
use Rattle.protocol.specs.Numbers.{pick}
use mathlib.Core.Option.{Option as Known}
use Rattle.std.specs.declared.option.Option.{Option}
use Rattle.std.specs.Prelude.{Some, None, Result, Ok, Err}
use Rattle.std.specs.Option.{ok_or}
use native.Mathlib.Omega.{arith}
use Rattle.protocol.specs.Messages.{Layout, server, client, layout_in, layout_of}

-- a test that picks a start and what is known there
start : (b : Bool) (p r : Option ℕ) (u v : Known Layout) → known_at p ≡ u → known_at r ≡ v → known_at (pick b p r) ≡ pick b u v
unfolding pick
start true p r u v e f = e
start false p r u v e f = f

server_known : (t : ℕ) → known_at (server_start t) ≡ layout_in t server
unfolding server_start layout_in server pick known_at layout_at layouts codes entry field_of width_of values_of widths firsts allowed_of values
server_known t =
    start (eqb t 0x45) (Some 0) _ _ _ refl
    (start (eqb t 0x4c) (Some 5) _ _ _ refl
    (start (eqb t 0x5a) (Some 10) _ _ _ refl
    (start (eqb t 0x43) (Some 13) _ _ _ refl
    (start (eqb t 0x54) (Some 19) _ _ _ refl
    (start (eqb t 0x73) (Some 27) _ _ _ refl (start (eqb t 0x44) (Some 30) _ _ _ refl (start (eqb t 0x53) (Some 33) _ _ _ refl refl)))))))

client_known : (t : ℕ) → known_at (client_start t) ≡ layout_in t client
unfolding client_start layout_in client pick known_at layout_at layouts codes entry field_of width_of values_of widths firsts allowed_of values
client_known t = start (eqb t 0x53) (Some 36) _ _ _ refl (start (eqb t 0x56) (Some 37) _ _ _ refl refl)

pub start_known : (r : Option ℕ) (side t : ℕ) → r ≡ start_of side t → known_at r ≡ layout_of side t
unfolding start_of layout_of known_at pick
start_known r side t e =
    ap known_at e
    ∙ start (eqb side 1) (server_start t) _ _ _ (server_known t) (start (eqb side 0) (client_start t) _ _ _ (client_known t) refl)

-- ---- each start is a position of the table

abbrev Below : Option ℕ → Type 0
Below (Some p) = p < 51
Below None = Unit {0}

either : (b : Bool) (p r : Option ℕ) → Below p → Below r → Below (pick b p r)
unfolding pick
either true p r h k = h
either false p r h k = k

server_below : (t : ℕ) → Below (server_start t)
unfolding server_start
server_below t =
    either (eqb t 0x45) (Some 0) _ (omega arith)
    (either (eqb t 0x4c) (Some 5) _ (omega arith)
    (either (eqb t 0x5a) (Some 10) _ (omega arith)
    (either (eqb t 0x43) (Some 13) _ (omega arith)
    (either (eqb t 0x54) (Some 19) _ (omega arith)
    (either (eqb t 0x73) (Some 27) _ (omega arith) (either (eqb t 0x44) (Some 30) _ (omega arith) (either (eqb t 0x53) (Some 33) None (omega arith) tt)))))))

client_below : (t : ℕ) → Below (client_start t)
unfolding client_start
client_below t = either (eqb t 0x53) (Some 36) _ (omega arith) (either (eqb t 0x56) (Some 37) None (omega arith) tt)

pub start_below : (p side t : ℕ) → Some p ≡ start_of side t → p < 51
unfolding start_of
start_below p side t e =
    let h : Below (start_of side t) = either (eqb side 1) (server_start t) _ (server_below t) (either (eqb side 0) (client_start t) None (client_below t) tt) in
    rw (← e) at h

-- ---- what `ok_or` makes of it

module _ {A E : Type 0} (o : Option A) (r : Result A E) (d : E) (q : r ≡ ok_or o d) where
  pub unknown : (e : E) → r ≡ Err e → (o ≡ None) × (e ≡ d)
  unknown e h = from o (sym q ∙ h)
    where
      from : (o : Option A) → ok_or o d ≡ Err e → (o ≡ None) × (e ≡ d)
      from None g = (refl, cc)
      from (Some x) g = let z : ◌≡◌ {A = ℕ} 0 1 = cc in absurd (omega arith)

  pub known : (x : A) → r ≡ Ok x → o ≡ Some x
  known x h = from o (sym q ∙ h)
    where
      from : (o : Option A) → ok_or o d ≡ Ok x → o ≡ Some x
      from None g = let z : ◌≡◌ {A = ℕ} 0 1 = cc in absurd (omega arith)
      from (Some y) g = cc
