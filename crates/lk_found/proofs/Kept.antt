-- What is known of an address by what the code keeps of it.
use Rattle.std.proofs.Common.{◌≡◌, ap, arith}
use Rattle.lk_typed.specs.Typing as typing
use Rattle.lk_typed.specs.Typing.{Position}
use Rattle.lk_found.specs.Addresses.{kept_of, place_of}
use Rattle.lk_found.specs.declared.addresses.Address.{Address}
use Rattle.lk_found.specs.declared.addresses.Address.TheVariants as address
use Rattle.lk_found.specs.declared.addresses.Place.{Place}

abbrev place_or : Place → Address → Place
place_or other address.NotAddress = other
place_or other address.Null = other
place_or other address.Function = other
place_or other (address.Inside place) = place
place_or other address.Nowhere = other

-- what is said of each position of a place is said of an address of that place
pub of_place : (Says : typing.Address → Type 0) (x : typing.Address) (place : Place) → address.Inside place ≡ kept_of x →
    ((position : Position) → place ≡ place_of position → Says (typing.Inside position)) → Says x
of_place Says typing.NotAddress place e h = absurd (grind arith)
of_place Says typing.NullAddress place e h = absurd (grind arith)
of_place Says (typing.FunctionAddress n) place e h = absurd (grind arith)
of_place Says (typing.Inside position) place e h = h position (ap (place_or place) e)
of_place Says typing.Nowhere place e h = absurd (grind arith)
