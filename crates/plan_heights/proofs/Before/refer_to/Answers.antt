-- `plan_heights::Before::refer_to` meets its contract: a law for each return.
use mathlib.Core.Path.{sym, ◌∙◌}
use Rattle.plan_heights.proofs.Heights.{refer_miss, refer_barred, refer_high, refer_rise}
use Rattle.plan_heights.proofs.Before.refer_to.Goals as goal

pub returns-in_err-index : goal.returns-in_err-index
returns-in_err-index c =
    c.from_residual.ensures ∙ refer_miss _ _ _ _ _ _ c.args.self.now.scanned.rising c.requires c.in_err-index.ensures

pub returns-then-not-may_refer : goal.returns-then-not-may_refer
returns-then-not-may_refer c =
    refer_barred _ _ _ _ _ _ c.args.self.now.scanned.rising c.requires _ c.in_ok-index.ensures _ c.wide.ensures
    (sym c.may_refer.ensures ∙ c.if-not-may_refer.true)

pub returns-then-other-gt-HIGH : goal.returns-then-other-gt-HIGH
returns-then-other-gt-HIGH c =
    refer_high _ _ _ _ _ _ c.args.self.now.scanned.rising c.requires _ c.in_ok-index.ensures _ c.wide.ensures
    (sym c.may_refer.ensures ∙ c.if-not-may_refer.false) c.if-other-gt-HIGH.true

pub returns : goal.returns
returns c =
    refer_rise _ _ _ _ _ _ c.args.self.now.scanned.rising c.requires _ c.in_ok-index.ensures _ c.wide.ensures
    (sym c.may_refer.ensures ∙ c.if-not-may_refer.false) c.if-other-gt-HIGH.false _ c.max.ensures
