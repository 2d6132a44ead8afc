-- The laws of the next entry of a list.
use mathlib.Core.Path.{◌≡◌, refl, ap, sym, ◌∙◌}
use mathlib.Core.Bool.{Bool, true, false}
use mathlib.Core.List.{List}
use Prim.Native.Nat.{ℕ, ◌+◌, ◌<◌, ◌≤◌}
use native.Mathlib.Omega.{arith}
use lib.Dec.{ltb}
use Rattle.std.specs.Prelude.{Option, Some, None}
use Rattle.std.specs.Bool.{then_some}
use lib.ListN.{length, drop, get_or, length-drop}
use lib.Seq.{get_or-drop, drop-drop}
use borrow.Author.Tests.{lt-ltb, le-ltb, ltb-true, ltb-false}
use Rattle.supply_entries.specs.Emitting.{claim, read_of, known}
use Rattle.supply_entries.specs.declared.Entry.{Entry}
use Rattle.protocol.specs.Numbers.{pick}
use Rattle.protocol.specs.Supplies.{Next, short, next, next_of}

abbrev index_of : Option Entry → ℕ
index_of None = 0
index_of (Some e) = e.index

module _ (l : List ℕ) (w : ℕ) where
  -- how the entry at a word is read
  pub read_short : length l < w + 5 → None ≡ read_of (next_of (drop w l))
  unfolding read_of next_of pick
  read_short h =
      let k : length (drop w l) < 5 = simp length-drop (omega arith) in
      rw (lt-ltb (length (drop w l)) 5 k)

  pub read_whole : (ws : List ℕ) → ws ≡ drop w l → 5 ≤ length ws
      → Some (record { node = get_or ws 0 0; index = get_or ws 1 0; start = get_or ws 2 0; size = get_or ws 3 0; count = get_or ws 4 0 })
      ≡ read_of (next_of (drop w l))
  unfolding read_of next_of pick
  read_whole ws e h =
      let k : 5 ≤ length (drop w l) = rw (← e) h in
      rw (le-ltb (length (drop w l)) 5 k, e)

  -- what an entry that was read says
  module _ (r : Option Entry) (q : r ≡ read_of (next_of (drop w l))) where
    pub no_entry : r ≡ None → next_of (drop w l) ≡ short
    unfolding read_of next_of pick
    no_entry e = go (ltb (length (drop w l)) 5) refl
      where
        go : (b : Bool) → ltb (length (drop w l)) 5 ≡ b → next_of (drop w l) ≡ short
        go true f = rw f
        go false f = let g = rw f at (sym e ∙ q) in let z : ◌≡◌ {A = ℕ} 0 1 = cc in absurd (omega arith)

    module _ (e : Entry) (is : r ≡ Some e) where
      pub entry_inside : w + 5 ≤ length l
      unfolding read_of next_of pick
      entry_inside = go (ltb (length (drop w l)) 5) refl
        where
          go : (b : Bool) → ltb (length (drop w l)) 5 ≡ b → w + 5 ≤ length l
          go true f = let g = rw f at (sym is ∙ q) in let z : ◌≡◌ {A = ℕ} 0 1 = cc in absurd (omega arith)
          go false f = let k = rw length-drop at (ltb-false (length (drop w l)) 5 f) in omega arith

      pub entry_at : next_of (drop w l) ≡ next (claim e) (drop (w + 5) l)
      unfolding read_of next_of pick
      entry_at =
          let k : 5 ≤ length (drop w l) = simp length-drop (omega (arith, entry_inside)) in
          let g = rw (le-ltb (length (drop w l)) 5 k) at (sym is ∙ q) in
          let f : e ≡ record { node = get_or (drop w l) 0 0; index = get_or (drop w l) 1 0; start = get_or (drop w l) 2 0; size = get_or (drop w l) 3 0; count = get_or (drop w l) 4 0 } = cc in
          rw (le-ltb (length (drop w l)) 5 k, f, drop-drop)

      pub entry_index : e.index ≡ get_or l (w + 1) 0
      entry_index =
          ap index_of (sym is ∙ q ∙ sym (read_whole (drop w l) refl (simp length-drop (omega (arith, entry_inside))))) ∙ rw get_or-drop

-- ---- the entry of a sparse object, whose index is one of n

module _ (n : ℕ) where
  pub known_short : (x : Next) → None ≡ read_of x → None ≡ read_of (known n x)
  unfolding read_of known
  known_short short q = refl
  known_short (next c ws) q = cc

  module _ (e : Entry) where
    pub known_whole : (x : Next) → Some e ≡ read_of x → then_some (ltb e.index n) e ≡ read_of (known n x)
    unfolding read_of known pick
    known_whole short q = cc
    known_whole (next c ws) q =
        let i : e ≡ record { node = c.node; index = c.index; start = c.start; size = c.size; count = c.count } = cc in
        rw i (go (ltb c.index n))
      where
        go : (b : Bool) → then_some b (record { node = c.node; index = c.index; start = c.start; size = c.size; count = c.count }) ≡ read_of (pick b (next c ws) short)
        go true = refl
        go false = refl

    -- what such an entry says
    pub known_is : (x : Next) (r : Option Entry) → r ≡ read_of (known n x) → r ≡ Some e → (r ≡ read_of x) × (e.index < n)
    unfolding read_of known pick
    known_is short r q is = let z : ◌≡◌ {A = ℕ} 0 1 = cc in absurd (omega arith)
    known_is (next c ws) r q is = go (ltb c.index n) refl q
      where
        go : (b : Bool) → ltb c.index n ≡ b → r ≡ read_of (pick b (next c ws) short) → (r ≡ read_of (next c ws)) × (e.index < n)
        go true f g =
            let i : c.index ≡ e.index = ap index_of (sym g ∙ is) in
            (g, omega (arith, ltb-true c.index n f))
        go false f g = let z : ◌≡◌ {A = ℕ} 0 1 = cc in absurd (omega arith)
