-- What a list holds after it was lent as a slice for writing.
use Rattle.std.specs.Prelude.{List, ◌++◌, length, take, drop}

-- the elements that were written last, as many as before
unfoldable pub written : {A : Type 0} → List A → List A → List A
written old new = take (length old) (new ++ drop (length new) old)
