-- `value_scalars::number::digits_ok` meets its contract. The invariant: what is left are digits where all are, and is as even as all.
use Rattle.std.proofs.Common.{◌≡◌, ◌%◌, length}
use Rattle.std.specs.Slice.Iter.{chunks_exact_rest, chunks_exact_size}
use Rattle.protocol.specs.Scalars.{digits}
use Rattle.value_scalars.proofs.number.digits_ok.Given as goal

abbrev pub invariant-loop-digit : goal.invariant-loop-digit
invariant-loop-digit l =
    (chunks_exact_size l.digit-iterator ≡ 2) × (length (chunks_exact_rest l.digit-iterator) % 2 ≡ length l.s % 2) × (digits l.s ≡ digits (chunks_exact_rest l.digit-iterator))
