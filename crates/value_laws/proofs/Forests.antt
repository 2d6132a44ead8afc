-- The laws of forests: what stands side by side adds up, and so do the words.
use mathlib.Core.Path.{◌≡◌, refl}
use mathlib.Core.List.{◌++◌, append_assoc as list-assoc}
use Prim.Native.Nat.{◌+◌, ◌*◌}
use native.Mathlib.Omega.{arith}
use lib.ListN.{length, length-append}
use Rattle.protocol.specs.Lists.{Forest, empty, tree, append, width, words}
use Rattle.value_laws.specs.Counts.{entry_count}

pub words_append : (f g : Forest) → words (append f g) ≡ words f ++ words g
unfolding words append
words_append empty g = refl
words_append (tree e below next) g = rw (words_append next g) (simp list-assoc)

pub width_append : (f g : Forest) → width (append f g) ≡ width f + width g
unfolding width append
width_append empty g = omega arith
width_append (tree e below next) g = omega (arith, width_append next g)

pub count_append : (f g : Forest) → entry_count (append f g) ≡ entry_count f + entry_count g
unfolding entry_count append
count_append empty g = omega arith
count_append (tree e below next) g = omega (arith, count_append next g)

-- five words an entry
pub words_length : (f : Forest) → length (words f) ≡ 5 * entry_count f
unfolding words entry_count
words_length empty = refl
words_length (tree e below next) = simp length-append (omega (arith, words_length below, words_length next))

pub append_empty : (f : Forest) → append f empty ≡ f
unfolding append
append_empty empty = refl
append_empty (tree e below next) = rw (append_empty next)

pub append_assoc : (f g h : Forest) → append f (append g h) ≡ append (append f g) h
unfolding append
append_assoc empty g h = refl
append_assoc (tree e below next) g h = rw (append_assoc next g h)
