-- The term in which specs/Theorems states what the functions do. It is that of theorems/specs/Terms, written out here too so that this page needs
-- none of the crates below that one. It must be believed together with crates/protocol.
use seplogic.Ra.Ura.{Ura}
use base.Logic.{emp}
use mir.Syntax.{Callee}
use prog.Model.{Model}
use prog.Wired.{Code, Wired}
use types.Logic.{Logic}
use contract.Monad.{fact}
use contract.Lifetimes.{Lfts}
use contract.Running.{Running}
use denote.Triple.Entry.{Args, Res}
use denote.Triple.Spec.{Meets}
use denote.Triple.Clauses.{Ended, AtExit, closing}

-- A function, called with any arguments: nothing is asked of them but what their types own. It ends, and `does` holds of the arguments, the
-- result and the arguments at exit: the logic's own triple, with an empty `requires`. `code` is the function's code with that of all it calls, and
-- a call is what it is in any program that has this code.
abbrev pub Does : (T : Ended) → Code → Callee
    → ((κs : Lfts T.signature.lifetimes) → Args T.signature κs → Res T.signature κs → AtExit T κs → Type 0) → Type 2
Does T code name does =
    (M : Type 1) (𝓤 : Ura M) (𝓛 : Logic 𝓤) (𝓜 : Model 𝓤 𝓛.H) (𝓡 : Running 𝓤 𝓛.H 𝓜) → Wired 𝓡.env code
    → Meets 𝓛 T.signature (𝓡.run (𝓡.env name))
    (closing 𝓛 T (λ κs a. record { ghost = Unit {0}; requires = λ _. emp 𝓤; ensures = λ _ r e. fact 𝓤 (does κs a r e) }))
