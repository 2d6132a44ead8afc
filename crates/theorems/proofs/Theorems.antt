-- Each promise of specs/Theorems holds, in the order of that page.
use mathlib.Core.Path.{refl, sym, ◌∙◌}
use Prim.Native.Nat.{◌-◌, ◌^◌}
use native.Mathlib.Omega.{arith}
use Rattle.message_laws.proofs.Host.{read_then_written, written_then_read, written_then_full}
use Rattle.run_plan.proofs.Numbers.{exact_33, exact_28, exact_31}
use Rattle.find_path.proofs.Entries.{find_lines, found_entry}
use Rattle.find_path.proofs.Indexes.{listed_distinct}
use Rattle.find_number.proofs.Answers.{one_answer}
use Rattle.find_number.proofs.Bits.{float_bits, extend_low, extend_high}
use Rattle.intake_laws.proofs.Conversations.{cuts}
use Rattle.intake_laws.proofs.States.{reset_starts}
use Rattle.supply_laws.proofs.Sound.{sound}
use Rattle.supply_laws.proofs.Complete.{complete, one_value, zeroed_length}
use Rattle.supply_laws.proofs.Exact.{exact_34, exact_33 as supply-33, exact_32 as supply-32}
use Rattle.supply_laws.proofs.Crossed.{exact_34_from_c}
use Rattle.supply_laws.proofs.RoundTrip.{round_trip, round_trip_fits}
use Rattle.run_compiled.proofs.Demand3.{demand_three, compiled_formed, compiled_small, refused_same}
use Rattle.run_compiled.proofs.compile_and_run.Met.{met as compile_and_run_met}
use Rattle.c_panel.proofs.rembulfose_read_message.Met.{met as read_message_met}
use Rattle.c_panel.proofs.rembulfose_intake_start.Met.{met as intake_start_met}
use Rattle.c_panel.proofs.rembulfose_intake_reset.Met.{met as intake_reset_met}
use Rattle.c_panel.proofs.rembulfose_intake_take.Met.{met as intake_take_met}
use Rattle.c_panel.proofs.rembulfose_write_message.Met.{met as write_message_met}
use Rattle.c_panel.proofs.rembulfose_compile.Met.{met as compile_met}
use Rattle.c_panel.proofs.rembulfose_run.Met.{met as run_met}
use Rattle.c_panel.proofs.rembulfose_find.Met.{met as find_met}
use Rattle.c_panel.proofs.rembulfose_find_number.Met.{met as find_number_met}
use Rattle.c_panel.proofs.rembulfose_write_value.Met.{met as write_value_met}
use Rattle.theorems.specs.Theorems.{RoomsKept, MessageAccepted, ReadThenWritten, WrittenThenRead, DescriptorAccepted}
use Rattle.theorems.specs.Theorems.{DescriptorNumbers, PlanGiven, NeverUnformed, DemandThree, DemandThreeBytes, RulesNumbers}
use Rattle.theorems.specs.Theorems.{ValueAccepted, TimesOfDay, RunExact, FewEntries, FoundOnList, FoundIsEntry, FoundPermitted, OneEntry, OneNumber, FloatKept}
use Rattle.theorems.specs.Theorems.{SignKept, SupplySound, SupplyComplete, SupplyUnique, SupplyExact, SupplyExactFromC, RoundTrip}
use Rattle.theorems.specs.Theorems.{EveryCall, CompileAndRun, CutsAgree, IntakeEnds, IntakeAnswers, IntakeReads, EdgeCases}
use Rattle.theorems.proofs.Accepted.{message_exact, descriptor_exact, no_type_exact, descriptor_number, plan_exact, full_exact}
use Rattle.theorems.proofs.Accepted.{refused_own, value_exact}
use Rattle.theorems.proofs.Lists.{run_number, rules_number, never_33, run_entries, call_entries, indexes_apart_lem, found_part}
use Rattle.theorems.proofs.Lists.{found_permitted, time_in_day, time_over, time_of_size}
use Rattle.theorems.proofs.Bytes.{read_keeps, write_keeps, compile_keeps, run_keeps, value_keeps, runs_rules, call_runs_rules, written_bytes}
use Rattle.theorems.proofs.Intake.{two_cuts, refusal_stays, other_room_kept, intake_answers, intake_keeps, intake_gives, intake_takes}
use Rattle.theorems.proofs.Cases.{case_table}
use Rattle.protocol.specs.Finding.{found_in, find_of}

-- ---- R1: refusals and success

pub rooms_kept_holds : RoomsKept
rooms_kept_holds = (read_keeps, write_keeps, compile_keeps, run_keeps, value_keeps, intake_keeps)

-- ---- R2: messages

pub message_accepted_holds : MessageAccepted
message_accepted_holds = message_exact

pub read_then_written_holds : ReadThenWritten
read_then_written_holds = read_then_written

pub written_then_read_holds : WrittenThenRead
written_then_read_holds side t list src r out out' c z s f q l l' d = (
  written_then_read side t list src r out out' c z s f q l l' d,
  written_then_full side t list src r out out' c z s f q l l' d,
)

-- ---- R3: descriptors

pub descriptor_accepted_holds : DescriptorAccepted
descriptor_accepted_holds = (descriptor_exact, no_type_exact)

pub descriptor_numbers_holds : DescriptorNumbers
descriptor_numbers_holds = descriptor_number

-- ---- R4: plans, and the rules read off a descriptor

pub plan_given_holds : PlanGiven
plan_given_holds d root room = (plan_exact d root room, full_exact d root room, refused_own d root room)

pub never_unformed_holds : NeverUnformed
never_unformed_holds d root t w = (
  compiled_small d root t w,
  compiled_formed d root t w,
  λ s room q e. never_33 d root s room 33 q (sym (demand_three d root t w s room) ∙ e) refl,
)

pub demand_three_holds : DemandThree
demand_three_holds d root = (demand_three d root, refused_same d root)

pub demand_three_bytes_holds : DemandThreeBytes
demand_three_bytes_holds d root r p p' c z s = (runs_rules d root r p p' c z s, call_runs_rules d root r p p' c z s)

pub rules_numbers_holds : RulesNumbers
rules_numbers_holds = rules_number

-- ---- R5, R6: values and their lists

pub value_accepted_holds : ValueAccepted
value_accepted_holds = value_exact

pub times_of_day_holds : TimesOfDay
times_of_day_holds = (time_in_day, λ n h l. time_over n h (omega arith), λ n h l. time_over (2 ^ 64 - n) (omega arith) (omega arith), time_of_size)

pub run_exact_holds : RunExact
run_exact_holds p w s room = (
  exact_33 p w s room,
  exact_28 p w s room,
  exact_31 p w s room,
  λ n q f e. run_number p w f s room n q e,
)

pub few_entries_holds : FewEntries
few_entries_holds = (run_entries, call_entries)

-- ---- R7: finding

pub found_on_list_holds : FoundOnList
unfolding find_of found_in
found_on_list_holds p s path = (λ n q e. rw e, find_lines p s path)

pub found_is_entry_holds : FoundIsEntry
found_is_entry_holds p s path f w e k a b q =
    let x = found_entry p s path f w e k a b q in
    let y = found_part p s path f w e k a b q in (
      record {
        entry = x.entry;
        reached = x.reached;
        inside = x.inside;
        node_is = x.node_is;
        start_is = x.start_is;
        size_is = x.size_is;
      },
      y.0,
      y.1,
    )

pub found_permitted_holds : FoundPermitted
found_permitted_holds = found_permitted

pub one_entry_holds : OneEntry
one_entry_holds p s f w e = indexes_apart_lem f (listed_distinct p s f w e)

pub one_number_holds : OneNumber
one_number_holds = one_answer

pub float_kept_holds : FloatKept
float_kept_holds = float_bits

pub sign_kept_holds : SignKept
sign_kept_holds w n h e = (extend_low w n h e, extend_high w n h e)

-- ---- R8: supplies

pub supply_sound_holds : SupplySound
supply_sound_holds p ws src room b w e = let x = sound p ws src room b w e in (x.0, x.1, written_bytes p ws src room b e)

pub supply_complete_holds : SupplyComplete
supply_complete_holds = complete

pub supply_unique_holds : SupplyUnique
supply_unique_holds = one_value

pub supply_exact_holds : SupplyExact
supply_exact_holds p ws src room w b = (supply-33 p ws src room, exact_34 p ws src room w b, supply-32 p ws src room w b)

pub supply_exact_from_c_holds : SupplyExactFromC
supply_exact_from_c_holds = exact_34_from_c

pub round_trip_holds : RoundTrip
round_trip_holds p s room f b e = (round_trip p s room f b e, zeroed_length p s b f e, round_trip_fits p s room f b e)

-- ---- R9: the calls

pub every_call_holds : EveryCall
every_call_holds =
    record {
      read_message_does = λ M. read_message_met {M = M};
      intake_start_does = λ M. intake_start_met {M = M};
      intake_reset_does = λ M. intake_reset_met {M = M};
      intake_take_does = λ M. intake_take_met {M = M};
      write_message_does = λ M. write_message_met {M = M};
      compile_does = λ M. compile_met {M = M};
      run_does = λ M. run_met {M = M};
      find_does = λ M. find_met {M = M};
      find_number_does = λ M. find_number_met {M = M};
      write_value_does = λ M. write_value_met {M = M};
    }

pub compile_and_run_holds : CompileAndRun
compile_and_run_holds M = compile_and_run_met {M = M}

-- ---- R10: the intake

pub cuts_agree_holds : CutsAgree
cuts_agree_holds = (cuts, two_cuts)

pub intake_ends_holds : IntakeEnds
intake_ends_holds = (refusal_stays, other_room_kept, reset_starts)

pub intake_answers_holds : IntakeAnswers
intake_answers_holds = intake_answers

pub intake_reads_holds : IntakeReads
intake_reads_holds = (intake_gives, intake_takes)

-- ---- the eleven cases

pub edge_cases_holds : EdgeCases
edge_cases_holds = case_table
