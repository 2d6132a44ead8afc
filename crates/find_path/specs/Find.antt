-- How the answer of the code's finder shows protocol's outcome: read it only for the contract of `find_path::find`, and of what it calls.
use Rattle.std.specs.Prelude.{Result, Ok, Err}
use Rattle.forms.specs.declared.fault.Refusal.{Refusal}
use Rattle.find_path.specs.declared.Found as code
use Rattle.protocol.specs.Finding.{Found, unfound, found}

-- node, start and part of what is found; number and place of a refusal
unfoldable pub outcome : Result code.Found Refusal → Found
outcome (Ok f) = found f.node f.start f.part.now
outcome (Err r) = unfound r.fault r.place
