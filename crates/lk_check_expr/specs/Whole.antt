-- The rule of `sizeof`, of a type that isn't broken.
use Rattle.std.specs.Prelude.{Bool, List}
use Rattle.lk_base.specs.declared.kind.Kind.TheVariants.{ULong}
use Rattle.lk_typed.specs.Env.{Members}
use Rattle.lk_typed.specs.Places.{sizeof_codes}
use Rattle.lk_typed.specs.Sizes.{bytes_in, constant_of_bytes}
use Rattle.lk_typed.specs.Ty.{Ty}
use Rattle.lk_typed.specs.Typing.{Verdict, integer, unless}

abbrev pub size_of_whole : List Members → Bool → Ty → Verdict
size_of_whole structs in_size t =
    unless (sizeof_codes structs in_size t) (integer ULong (constant_of_bytes (bytes_in t)))
