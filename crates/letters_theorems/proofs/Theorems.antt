-- Each promise of specs/Theorems holds, in the order of that page.
use Rattle.wire_letters.proofs.PlainRuns.{step_onward, step_inside, step_plain, step_stops}
use Rattle.wire_letters.proofs.Rows.{step_keeps}
use Rattle.wire_letters.proofs.plain.plain_end.Met.{met as plain_end_met}
use Rattle.wire_letters.proofs.letters.is_utf8.Met.{met as is_utf8_met}
use Rattle.wire_stepless.proofs.textbench_is_utf8_stepless.Met.{met as stepless_met}
use Rattle.wire_stepless.proofs.alike.Met.{met as alike_met}
use Rattle.letters_theorems.specs.Theorems.{PlainStep, TextChecks}

pub plain_step_holds : PlainStep
plain_step_holds s i h = (step_onward s i, step_inside s i h, step_plain s i, step_stops s i h, step_keeps s i)

pub text_checks_hold : TextChecks
text_checks_hold =
    record {
      step_does = λ M. plain_end_met {M = M};
      check_does = λ M. is_utf8_met {M = M};
      stepless_does = λ M. stepless_met {M = M};
      alike_does = λ M. alike_met {M = M};
    }
