-- What C links does what the page of theorems says of each call (EveryCall of crates/theorems): the page speaks of the functions of c_panel, which the
-- exports call, and this of the exports themselves, in the same words (R9.1 to R9.8, R9.12).
use Rattle.std.proofs.Common.{◌≡◌}
use Rattle.theorems.specs.Terms.{Does}
use Rattle.c_panel_c.specs.contracts.rembulfose_read_message as read_message_contract
use Rattle.c_panel_c.proofs.rembulfose_read_message.Symbol as read_message_code
use Rattle.c_panel_c.proofs.rembulfose_read_message.Met.{met as read_message_met}
use Rattle.c_panel_c.specs.contracts.rembulfose_intake_start as intake_start_contract
use Rattle.c_panel_c.proofs.rembulfose_intake_start.Symbol as intake_start_code
use Rattle.c_panel_c.proofs.rembulfose_intake_start.Met.{met as intake_start_met}
use Rattle.c_panel_c.specs.contracts.rembulfose_intake_reset as intake_reset_contract
use Rattle.c_panel_c.proofs.rembulfose_intake_reset.Symbol as intake_reset_code
use Rattle.c_panel_c.proofs.rembulfose_intake_reset.Met.{met as intake_reset_met}
use Rattle.c_panel_c.specs.contracts.rembulfose_intake_take as intake_take_contract
use Rattle.c_panel_c.proofs.rembulfose_intake_take.Symbol as intake_take_code
use Rattle.c_panel_c.proofs.rembulfose_intake_take.Met.{met as intake_take_met}
use Rattle.c_panel_c.specs.contracts.rembulfose_write_message as write_message_contract
use Rattle.c_panel_c.proofs.rembulfose_write_message.Symbol as write_message_code
use Rattle.c_panel_c.proofs.rembulfose_write_message.Met.{met as write_message_met}
use Rattle.c_panel_c.specs.contracts.rembulfose_compile as compile_contract
use Rattle.c_panel_c.proofs.rembulfose_compile.Symbol as compile_code
use Rattle.c_panel_c.proofs.rembulfose_compile.Met.{met as compile_met}
use Rattle.c_panel_c.specs.contracts.rembulfose_run as run_contract
use Rattle.c_panel_c.proofs.rembulfose_run.Symbol as run_code
use Rattle.c_panel_c.proofs.rembulfose_run.Met.{met as run_met}
use Rattle.c_panel_c.specs.contracts.rembulfose_find as find_contract
use Rattle.c_panel_c.proofs.rembulfose_find.Symbol as find_code
use Rattle.c_panel_c.proofs.rembulfose_find.Met.{met as find_met}
use Rattle.c_panel_c.specs.contracts.rembulfose_find_number as find_number_contract
use Rattle.c_panel_c.proofs.rembulfose_find_number.Symbol as find_number_code
use Rattle.c_panel_c.proofs.rembulfose_find_number.Met.{met as find_number_met}
use Rattle.c_panel_c.specs.contracts.rembulfose_write_value as write_value_contract
use Rattle.c_panel_c.proofs.rembulfose_write_value.Symbol as write_value_code
use Rattle.c_panel_c.proofs.rembulfose_write_value.Met.{met as write_value_met}
use Rattle.protocol.specs.Crossing.{ReadsMessage, WritesMessage, CompilesPlan, RunsValue, find_from, find_answer, number_from, number_answer, WritesValue}
use Rattle.protocol.specs.Intake.{intake_start, intake_reset, TakesDelivery}

pub record EveryExport : Type 2 where
  pub read_message_does : Does read_message_contract.ended read_message_code.code read_message_code.name
      (λ κs (side, (s, (l, _))) r (_, (_, (l', _))). ReadsMessage side s.now r l.now l'.now)
  pub intake_start_does : Does intake_start_contract.ended intake_start_code.code intake_start_code.name (λ κs (side, (room, _)) r _. r ≡ intake_start side room)
  pub intake_reset_does : Does intake_reset_contract.ended intake_reset_code.code intake_reset_code.name (λ κs (i, _) r _. r ≡ intake_reset i)
  pub intake_take_does : Does intake_take_contract.ended intake_take_code.code intake_take_code.name
      (λ κs (i, (src, (l, _))) r (_, (_, (l', _))). TakesDelivery i src.now r l.now l'.now)
  pub write_message_does : Does write_message_contract.ended write_message_code.code write_message_code.name
      (λ κs (side, (t, (list, (src, (l, _))))) r (_, (_, (_, (_, (l', _))))). WritesMessage side t list.now src.now r l.now l'.now)
  pub compile_does : Does compile_contract.ended compile_code.code compile_code.name
      (λ κs (d, (root, (l, _))) r (_, (_, (l', _))). CompilesPlan d.now root.now r l.now l'.now)
  pub run_does : Does run_contract.ended run_code.code run_code.name (λ κs (p, (s, (l, _))) r (_, (_, (l', _))). RunsValue p.now s.now r l.now l'.now)
  pub find_does : Does find_contract.ended find_code.code find_code.name (λ κs (p, (s, (path, _))) r _. r ≡ find_answer (find_from p.now s.now path.now))
  pub find_number_does : Does find_number_contract.ended find_number_code.code find_number_code.name
      (λ κs (p, (s, (path, _))) r _. r ≡ number_answer (number_from p.now s.now path.now))
  pub write_value_does : Does write_value_contract.ended write_value_code.code write_value_code.name
      (λ κs (p, (list, (src, (l, _)))) r (_, (_, (_, (l', _)))). WritesValue p.now list.now src.now r l.now l'.now)

pub every_export_holds : EveryExport
every_export_holds =
    record {
      read_message_does = λ M. read_message_met {M = M};
      intake_start_does = λ M. intake_start_met {M = M};
      intake_reset_does = λ M. intake_reset_met {M = M};
      intake_take_does = λ M. intake_take_met {M = M};
      write_message_does = λ M. write_message_met {M = M};
      compile_does = λ M. compile_met {M = M};
      run_does = λ M. run_met {M = M};
      find_does = λ M. find_met {M = M};
      find_number_does = λ M. find_number_met {M = M};
      write_value_does = λ M. write_value_met {M = M};
    }
