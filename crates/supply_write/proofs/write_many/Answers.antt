-- `supply_write::write_many` meets its contract: the table that was filled is right.
use Prim.Native.Nat.{ℕ}
use Rattle.plan_nodes.proofs.Memos.{filled_memo}
use Rattle.plan_nodes.proofs.Roots.{few_words}
use Rattle.supply_write.proofs.write_many.Goals as goal

pub fill-count-requires : goal.fill-count-requires
fill-count-requires c =
    few_words _ c.requires (λ (j : ℕ). (c.type_inv.plan j).fits)

pub write_sized-requires : goal.write_sized-requires
write_sized-requires c =
    (c.requires, filled_memo _ _ _ _ c.fill-count.ensures)
