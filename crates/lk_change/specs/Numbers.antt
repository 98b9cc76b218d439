-- What points give that compute and convert (C99 6.3, 6.5; POSIX pthread_equal).
use Rattle.std.specs.Prelude.{ℕ, Bool, true, false, List, [], ◌∷◌, map, Option, None, Some, option_and_then, nat_eq, pos}
use Rattle.std.specs.Option.{option_map, option_eq}
use Rattle.std.specs.Result.{result_ok}
use Rattle.lk_arith.specs.Conversions.{convert, truth}
use Rattle.lk_arith.specs.declared.operators.Op.{Op}
use Rattle.lk_arith.specs.declared.operators.UnaryOp.{UnaryOp}
use Rattle.lk_base.specs.declared.kind.Kind.TheVariants as kind
use Rattle.lk_facts.specs.Program.{value_type_at}
use Rattle.lk_facts.specs.declared.program.Program.{Program}
use Rattle.lk_cells.specs.Cells.{int_kind}
use Rattle.lk_cells.specs.Parts.{form_of}
use Rattle.lk_cells.specs.declared.state.State.{State}
use Rattle.lk_cells.specs.declared.state.Thread.{Thread}
use Rattle.lk_values.specs.declared.value.Value.{Value}
use Rattle.lk_values.specs.declared.value.Value.TheVariants.{Number}
use Rattle.lk_cells.specs.Computing as computing
use Rattle.lk_cells.specs.Converting as converting
use Rattle.lk_cells.specs.Computing.{Computed}
use Rattle.lk_cells.specs.Operands.{operand, id_in}
use Rattle.lk_change.specs.declared.change.Change.{Change}
use Rattle.lk_change.specs.declared.change.Effect.TheVariants as effect
use Rattle.lk_change.specs.Going.{goes, gives}

-- the value of what is computed
abbrev pub value_of : Computed → Option Value
value_of computed = option_and_then result_ok computed

-- an integer by the word, converted to a type (C99 6.3.1.3)
abbrev pub by_word : Program → ℕ → Option ℕ → Option Value
by_word program w ty =
    option_map (λ k. Number k (convert k (pos w)))
    (option_and_then int_kind (option_and_then (form_of program.types) ty))

-- `pthread_equal`: whether two ids name one thread, or both name none
abbrev pub equal_ids : Option (Option ℕ) → Option (Option ℕ) → Option Value
equal_ids a b = option_and_then (λ x. option_map (λ y. Number kind.Int (truth (option_eq nat_eq x y))) b) a

-- the same of a list of two values
abbrev pub ids_equal : List (Option Value) → Option Value
ids_equal [] = None
ids_equal (a ∷ []) = None
ids_equal (a ∷ (b ∷ [])) = equal_ids (id_in a) (id_in b)
ids_equal (a ∷ (b ∷ (c ∷ more))) = None

-- what operators and conversions give of the values of their operands (C99 6.3, 6.5)
abbrev pub unary_value : UnaryOp → Option Value → Option Value
unary_value op v = option_and_then (λ x. value_of (computing.unary_of op x)) v

abbrev pub binary_value : Program → State → Op → Option Value → Option Value → Option Value
binary_value program s op a b =
    option_and_then (λ x. option_and_then (λ y. value_of (computing.binary program.types s op x y)) b) a

abbrev pub converted_value : Program → State → ℕ → ℕ → Option Value → Option Value
converted_value program s a ty v =
    option_and_then (λ x. value_of (converting.converted_to program.types s (value_type_at program a) ty x)) v

abbrev pub gives_binary : Program → State → Thread → Op → ℕ → ℕ → Option Change
gives_binary program s thread op a b =
    gives program thread.frame.point (binary_value program s op (operand thread a) (operand thread b))

-- what a call gives that touches nothing: for `pthread_equal` whether its ids are
-- equal, else an integer by the word
abbrev pub computes : Program → Thread → ℕ → List ℕ → ℕ → Bool → Option Change
computes program thread w args ty true =
    gives program thread.frame.point (ids_equal (map (operand thread) args))
computes program thread w args ty false =
    goes program thread.frame.point 0 (by_word program w (Some ty)) effect.Nothing
