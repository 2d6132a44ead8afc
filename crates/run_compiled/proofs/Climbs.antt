-- The height that a plan's reading gives a node with references is the one that its block's elements give it.
use mathlib.Core.Path.{◌≡◌, refl, ap, sym, ◌∙◌}
use mathlib.Core.Bool.{true}
use mathlib.Core.List.{List}
use Prim.Native.Nat.{ℕ, zero, suc, ◌+◌, ◌≤◌, ◌<◌}
use native.Mathlib.Omega.{arith}
use lib.ListN.{length, get_or, take}
use lib.Seq.{take-suc, take-length}
use borrow.Author.Tests.{lt-ltb}
use Rattle.descriptor_fields.specs.Fields.{Known, Element}
use Rattle.descriptor_blocks.proofs.Elements.{no_element, target, raised_by, raised_snoc}
use Rattle.descriptor_blocks.proofs.Sound.{raised_least}
use Rattle.protocol.specs.Numbers.{pick, at_least}
use Rattle.protocol.specs.Plans.{PlanNode, placed_at, may_refer, raised, refer, refer_all}
use mathlib.Core.Option.{some}

-- a reference finds the node of an element's block
pub record Reached (known : List Known) (seen : List PlanNode) (kind r : ℕ) (e : Element) : Type 0 where
  pub node : PlanNode
  pub found : placed_at seen r ≡ some node
  pub may : may_refer kind node.kind ≡ true
  pub same : node.height ≡ (target known e).height
  pub low : (target known e).height ≤ 31

module _ (known : List Known) (seen : List PlanNode) (kind : ℕ) where
  refer_reached : (r h : ℕ) (e : Element) → 1 ≤ h → Reached known seen kind r e → refer seen kind r h ≡ at_least h ((target known e).height + 1)
  unfolding refer raised pick
  refer_reached r zero e l q = absurd (omega arith)
  refer_reached r (suc h) e l q = rw (q.found, q.may, q.same, lt-ltb (target known e).height 32 (omega (arith, q.low)))

  module _ (es : List Element) (f : ℕ → ℕ) (all : (k : ℕ) → k < length es → Reached known seen kind (f k) (get_or es k no_element)) where
    climb : (n : ℕ) → n ≤ length es → refer_all seen kind f n ≡ raised_by known 1 (take n es)
    unfolding refer_all raised_by
    climb zero l = refl
    climb (suc n) l =
        rw (climb n (omega arith))
        (refer_reached (f n) (raised_by known 1 (take n es)) (get_or es n no_element) (raised_least known 1 (take n es)) (all n l)
        ∙ sym (ap (raised_by known 1) (take-suc es n no_element l) ∙ raised_snoc known 1 (take n es) (get_or es n no_element)))

    pub climb_all : refer_all seen kind f (length es) ≡ raised_by known 1 es
    climb_all = climb (length es) (omega arith) ∙ ap (raised_by known 1) (take-length es)
