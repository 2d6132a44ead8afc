-- The laws of a descent by a path, one word of the path at a time.
use mathlib.Core.Path.{◌≡◌, refl, ap, ◌∙◌}
use mathlib.Core.List.{List, [], ◌∷◌}
use mathlib.Core.Option.{some}
use Prim.Native.Nat.{ℕ, suc, ◌+◌, ◌-◌, ◌<◌, ◌≤◌}
use native.Mathlib.Omega.{arith}
use native.Mathlib.Nat.{add-sub_cancel_left}
use lib.ListN.{length, take, drop, get_or, length-drop, drop_of_length-le}
use lib.Seq.{drop-cons, take_all}
use Rattle.forms.specs.declared.Head.{Head}
use Rattle.forms.specs.declared.Head.TheVariants.{Present, Absent}
use Rattle.std.specs.Prelude.{Result, Ok, Err}
use Rattle.find_path.specs.Descent.{child_head, missing, in_part, on_head, descend}
use Rattle.protocol.specs.Nodes.{Node, ref_at}
use Rattle.protocol.specs.Finding.{Found, unfound, found}

missing_last : (path : List ℕ) → length path ≡ 0 → unfound 36 0 ≡ missing path
unfolding missing
missing_last [] e = refl
missing_last (i ∷ path) e = absurd (omega arith)

missing_past : (path : List ℕ) → (length path ≡ 0 → ⊥) → unfound 35 0 ≡ missing path
unfolding missing
missing_past [] e = absurd (e refl)
missing_past (i ∷ path) e = refl

-- with i words behind, from a value of the node k
module _ (look : ℕ → Node) (k base : ℕ) (s path : List ℕ) (i : ℕ) where
  abbrev Leads : Found → Type 0
  Leads x = x ≡ descend look (drop i path) k base s

  pub descend_here : length path ≤ i → Leads (found k base s)
  unfolding descend
  descend_here e = rw (drop_of_length-le path e)

  module _ (l : i < length path) where
    abbrev rest : List ℕ
    rest = drop (i + 1) path

    descend_on : (r : Result Head ℕ) → r ≡ child_head (look k) s (get_or path i 0) → Leads (on_head (descend look rest) (missing rest) (look k) base s r)
    unfolding descend
    descend_on r e =
        let n : suc i ≡ i + 1 = omega arith in
        let d : drop i path ≡ get_or path i 0 ∷ rest = drop-cons path i 0 l ∙ ap (λ (m : ℕ). get_or path i 0 ∷ drop m path) n in
        rw (d, ← e)

    pub descend_refused : (n : ℕ) → Err n ≡ child_head (look k) s (get_or path i 0) → Leads (unfound 35 0)
    unfolding on_head
    descend_refused n e = descend_on (Err n) e

    module _ (h : Head) (eh : Ok h ≡ child_head (look k) s (get_or path i 0)) where
      descend_absent : (j start : ℕ) → h ≡ Absent j start → Leads (missing rest)
      unfolding on_head
      descend_absent j start e = rw e at (descend_on (Ok h) eh)

      pub descend_last : (j start : ℕ) → h ≡ Absent j start → i + 1 ≡ length path → Leads (unfound 36 0)
      descend_last j start e n = missing_last rest (simp length-drop (omega (arith, n))) ∙ descend_absent j start e

      pub descend_past : (j start : ℕ) → h ≡ Absent j start → (i + 1 ≡ length path → ⊥) → Leads (unfound 35 0)
      descend_past j start e n = missing_past rest (simp length-drop (omega (arith, n, l))) ∙ descend_absent j start e

      pub descend_below : (j start size c : ℕ) → h ≡ Present j start size → ref_at (look k) j ≡ some c
          → Leads (descend look rest c (base + start) (take (start + size - start) (drop start s)))
      unfolding on_head in_part
      descend_below j start size c e r = rw add-sub_cancel_left (rw (e, r) at (descend_on (Ok h) eh))

-- ---- the rest of a path, less its first word

pub rest_is : (path : List ℕ) → take (length path - 1) (drop 1 path) ≡ drop 1 path
rest_is path = take_all (length path - 1) (drop 1 path) (simp length-drop (omega arith))

pub rest_falls : (path : List ℕ) (t : ℕ) → length path ≡ t → 0 < length path → length (take (length path - 1) (drop 1 path)) < t
rest_falls path t e n = let h : length (take (length path - 1) (drop 1 path)) ≡ length path - 1 = rw (rest_is path) (simp length-drop refl) in omega (arith, h, e, n)
