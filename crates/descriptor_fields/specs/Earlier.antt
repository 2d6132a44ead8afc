-- Nobody has to believe this definition: it names what the code keeps of the earlier blocks, as the rules ask it.
use Rattle.std.specs.Prelude.{List}
use Rattle.descriptor_fields.specs.declared.earlier.Earlier.{Earlier}
use Rattle.descriptor_fields.specs.Fields.{Known}
use Rattle.descriptor_fields.specs.Arrays.{known_of}

abbrev pub before : Earlier → List Known
before e = known_of e.d.now e.known.now e.n
