-- The arguments of a call, with one more at the end.
use Rattle.std.proofs.Common.{◌≡◌, ◌∙◌, ◌++◌, ◌+◌, ◌<◌, ℕ, zero, suc, Bool, true, false, List, [], ◌∷◌, Option, Some, None, get_or, length, take, refl, sym, ap, subst, arith, append_assoc}
use Rattle.std.specs.Prelude.{◌||◌, slice_get}
use Rattle.std.proofs.lemmas.Bool.{false≢true}
use Rattle.std.proofs.lemmas.List.{take_more}
use Rattle.std.proofs.lemmas.List.Elements.{All-weaker}
use Rattle.std.proofs.lemmas.Option.{none-some, same_Some}
use Rattle.lk_base.specs.declared.code.Code.{Code}
use Rattle.lk_types.specs.Building.{IsLonger, IsTable}
use Rattle.lk_types.specs.Table.{Table}
use Rattle.lk_tree.specs.declared.expression.Expr.{Expr}
use Rattle.lk_typed.specs.Calls as spec
use Rattle.lk_typed.specs.Calls.{call_rule}
use Rattle.lk_typed.specs.Env.{Additions, ConvertedTo, Declared, Env, StructStep, Tag, as_operand, both, extend, nothing}
use Rattle.lk_typed.specs.ExprRules.{any_holds_sizeof, arguments_of, one_more, with_arguments}
use Rattle.lk_typed.specs.Expressions.{expression}
use Rattle.lk_typed.specs.Forms as forms
use Rattle.lk_typed.specs.Forms.{as_passed, placed_arguments}
use Rattle.lk_typed.specs.Library.{Passing, Converted, NullFor, Routine, Size}
use Rattle.lk_typed.specs.Typing.{Judged, Silent, Typing}
use Rattle.lk_typed.specs.Typings.{IsOperand, IsTyping}
use Rattle.lk_typed.specs.declared.role.Role.TheVariants as role
use Rattle.lk_typed.specs.declared.typed.ExprType.{ExprType}
use Rattle.lk_typed.specs.declared.typed.Typed.{Typed}
use Rattle.lk_check_expr.specs.Arguments.{AreArguments, IsArgument, IsPassedAt}
use Rattle.lk_check_expr.specs.declared.calls.Argument.{Argument}
use Rattle.lk_check_expr.specs.declared.library.Passing as passings
use Rattle.lk_check_expr.specs.declared.library.Passing.TheVariants as passing
use Rattle.lk_found.specs.Arguments.{AreGiven, AreOperands, IsGiven, IsNothing, StandsAs, added_by, as_given, found_of, nodes_of}
use Rattle.lk_found.specs.Judging.{IsRuled}
use Rattle.lk_found.specs.Findings.{IsFound, IsFoundTyping}
use Rattle.lk_found.specs.declared.arguments.Given.{Given}
use Rattle.lk_found.specs.declared.found.Found.{Found}
use Rattle.lk_found.specs.declared.ruled.Ruled.{Ruled}
use Rattle.lk_found.proofs.Rules.{part_of}
use Rattle.lk_found.proofs.Lasting.{look_elsewhere, operand_longer, typing_longer}
use Rattle.lk_found.proofs.Environments.{extend_both, extend_nothing}

-- ---- what is said of one more at the end

or_false : (b : Bool) → (b || false) ≡ b
or_false true = refl
or_false false = refl

or_then : (a b c : Bool) → (a || (b || c)) ≡ ((a || b) || c)
or_then true b c = refl
or_then false b c = refl

any_last : (ys : List Judged) (y : Judged) → any_holds_sizeof (ys ++ y ∷ []) ≡ (any_holds_sizeof ys || y.look.holds_sizeof)
any_last [] y = or_false y.look.holds_sizeof
any_last (x ∷ ys) y = ap (λ b. x.look.holds_sizeof || b) (any_last ys y) ∙ or_then x.look.holds_sizeof (any_holds_sizeof ys) y.look.holds_sizeof

same_additions : {ds es : List Declared} {ts us : List Tag} {ss rs : List StructStep} → ds ≡ es → ts ≡ us → ss ≡ rs →
    ◌≡◌ {A = Additions} (record { declared = ds; tags = ts; structs = ss }) (record { declared = es; tags = us; structs = rs })
same_additions p q r = cc

both_then : (a b c : Additions) → both a (both b c) ≡ both (both a b) c
both_then a b c = same_additions (sym (append_assoc a.declared b.declared c.declared)) (sym (append_assoc a.tags b.tags c.tags)) (sym (append_assoc a.structs b.structs c.structs))

pub added_last : (ys : List Judged) (y : Judged) → added_by (ys ++ y ∷ []) ≡ both (added_by ys) (both y.adds nothing)
added_last [] y = refl
added_last (x ∷ ys) y = ap (both x.adds) (added_last ys y) ∙ both_then x.adds (added_by ys) (both y.adds nothing)

abbrev with_last : Option (List spec.Argument) → Judged → Option Typing → Option (List spec.Argument)
with_last None y t = None
with_last (Some xs) y None = None
with_last (Some xs) y (Some t) = Some (xs ++ (record { typing = t; look = y.look }) ∷ [])

arguments_last : (ys : List Judged) (y : Judged) → arguments_of (ys ++ y ∷ []) ≡ with_last (arguments_of ys) y y.typing
arguments_last [] y = by_typing y y.typing
  where
    by_typing : (y : Judged) (t : Option Typing) → one_more y t (Some []) ≡ with_last (Some []) y t
    by_typing y None = refl
    by_typing y (Some t) = refl
arguments_last (x ∷ ys) y = ap (one_more x x.typing) (arguments_last ys y) ∙ by_typing x y x.typing (arguments_of ys) y.typing
  where
    by_typing : (x y : Judged) (s : Option Typing) (o : Option (List spec.Argument)) (t : Option Typing) → one_more x s (with_last o y t) ≡ with_last (one_more x s o) y t
    by_typing x y None o t = refl
    by_typing x y (Some s) None t = refl
    by_typing x y (Some s) (Some xs) None = refl
    by_typing x y (Some s) (Some xs) (Some t) = refl

-- ---- arguments in the code

are_last : (table : Table) (env : Env) (arguments : List Argument) (xs : List spec.Argument) (a : Argument) (x : spec.Argument) → AreArguments table env arguments xs → IsArgument table env a x →
    AreArguments table env (arguments ++ a ∷ []) (xs ++ x ∷ [])
are_last table env arguments xs a x are is = record { count = count arguments xs are.count; each = each arguments xs are.count are.each }
  where
    count : (arguments : List Argument) (xs : List spec.Argument) → length arguments ≡ length xs → length (arguments ++ a ∷ []) ≡ length (xs ++ x ∷ [])
    count [] [] e = refl
    count [] (y ∷ xs) e = absurd (omega (arith, e))
    count (b ∷ arguments) [] e = absurd (omega (arith, e))
    count (b ∷ arguments) (y ∷ xs) e = ap suc (count arguments xs (omega (arith, e)))

    each : (arguments : List Argument) (xs : List spec.Argument) → length arguments ≡ length xs →
        ((i : ℕ) (b : Argument) (y : spec.Argument) → slice_get arguments i ≡ Some b → slice_get xs i ≡ Some y → IsArgument table env b y) →
        (i : ℕ) (b : Argument) (y : spec.Argument) → slice_get (arguments ++ a ∷ []) i ≡ Some b → slice_get (xs ++ x ∷ []) i ≡ Some y → IsArgument table env b y
    each [] [] e h zero b y g k = subst (λ y. IsArgument table env b y) (same_Some x y k) (subst (λ b. IsArgument table env b x) (same_Some a b g) is)
    each [] [] e h (suc i) b y g k = absurd (none-some b g)
    each [] (z ∷ xs) e h i b y g k = absurd (omega (arith, e))
    each (d ∷ arguments) [] e h i b y g k = absurd (omega (arith, e))
    each (d ∷ arguments) (z ∷ xs) e h zero b y g k = h zero b y g k
    each (d ∷ arguments) (z ∷ xs) e h (suc i) b y g k = each arguments xs (omega (arith, e)) (λ i. h (suc i)) i b y g k

argument_longer : (old new : Table) (env : Env) (a : Argument) (x : spec.Argument) → IsTable old → IsLonger old new → IsArgument old env a x → IsArgument new env a x
argument_longer old new env a x good longer h = record { typing = typing_longer old new a.typing x.typing good longer h.typing; look = h.look }

argument_elsewhere : (table : Table) (env other : Env) (a : Argument) (x : spec.Argument) → env.outside ≡ other.outside → IsArgument table env a x → IsArgument table other a x
argument_elsewhere table env other a x same h = record { typing = h.typing; look = look_elsewhere env other a.look x.look same h.look }

given_by : (table other : Table) (env there : Env) (given : Given) (o : Option (List spec.Argument)) →
    ((a : Argument) (x : spec.Argument) → IsArgument table env a x → IsArgument other there a x) → AreGiven table env given o → AreGiven other there given o
given_by table other env there given None more h = h
given_by table other env there given (Some xs) more h = (h.0, record { count = h.1.count; each = λ i a x g k. more a x (h.1.each i a x g k) })

-- while the table grows
pub given_longer : (old new : Table) (env : Env) (given : Given) (ys : List Judged) → IsTable old → IsLonger old new → IsGiven old env given ys → IsGiven new env given ys
given_longer old new env given ys good longer h = record {
  arguments = given_by old new env env given (arguments_of ys) (λ a x. argument_longer old new env a x good longer) h.arguments;
  holds_sizeof = h.holds_sizeof;
}

-- in another environment of one outside
pub given_elsewhere : (table : Table) (env other : Env) (given : Given) (ys : List Judged) → env.outside ≡ other.outside → IsGiven table env given ys → IsGiven table other given ys
given_elsewhere table env other given ys same h = record {
  arguments = given_by table table env other given (arguments_of ys) (λ a x. argument_elsewhere table env other a x same) h.arguments;
  holds_sizeof = h.holds_sizeof;
}

pub operands_longer : (old new : Table) (given : Given) → IsLonger old new → AreOperands old given → AreOperands new given
operands_longer old new given longer h =
    All-weaker (λ a. IsOperand old a.typing) (λ a. IsOperand new a.typing) (λ a. operand_longer old new a.typing longer) given.arguments.items h

pub nothing_given : (table : Table) (env : Env) (given : Given) → IsNothing given → IsGiven table env given []
nothing_given table env given none = record {
  arguments = (none.are_typed, subst (λ list. AreArguments table env list []) (sym none.arguments) (record { count = refl; each = λ i a x g k. absurd (none-some a g) }));
  holds_sizeof = none.holds_sizeof;
}

-- ---- one more argument

pub given_some : (table : Table) (env : Env) (old new : Given) (a : Argument) (ys : List Judged) (y : Judged) (x : Typing) → new.are_typed ≡ old.are_typed →
    new.arguments.items ≡ old.arguments.items ++ a ∷ [] → new.holds_sizeof ≡ (old.holds_sizeof || a.look.holds_sizeof) → y.typing ≡ Some x →
    IsArgument table env a (record { typing = x; look = y.look }) → IsGiven table env old ys → IsGiven table env new (ys ++ y ∷ [])
given_some table env old new a ys y x typed items holds is argument given = record {
  arguments = subst (AreGiven table env new) (sym (arguments_last ys y ∙ ap (with_last (arguments_of ys) y) is)) (by_others (arguments_of ys) given.arguments);
  holds_sizeof = holds ∙ ap (λ b. b || a.look.holds_sizeof) given.holds_sizeof ∙ ap (λ b. any_holds_sizeof ys || b) (sym argument.look.holds_sizeof) ∙ sym (any_last ys y);
}
  where
    by_others : (o : Option (List spec.Argument)) → AreGiven table env old o → AreGiven table env new (with_last o y (Some x))
    by_others None h = typed ∙ h
    by_others (Some xs) h = (
      typed ∙ h.0,
      subst (λ list. AreArguments table env list (xs ++ (record { typing = x; look = y.look }) ∷ [])) (sym items)
          (are_last table env old.arguments.items xs a (record { typing = x; look = y.look }) h.1 argument),
    )

pub given_none : (table : Table) (env : Env) (old new : Given) (ys : List Judged) (y : Judged) (holds : Bool) → new.are_typed ≡ false → new.holds_sizeof ≡ (old.holds_sizeof || holds) → y.look.holds_sizeof ≡ holds →
    y.typing ≡ None → IsGiven table env old ys → IsGiven table env new (ys ++ y ∷ [])
given_none table env old new ys y holds typed same look is given = record {
  arguments = subst (AreGiven table env new) (sym (arguments_last ys y ∙ ap (with_last (arguments_of ys) y) is)) (by_others (arguments_of ys));
  holds_sizeof = same ∙ ap (λ b. b || holds) given.holds_sizeof ∙ ap (λ b. any_holds_sizeof ys || b) (sym look) ∙ sym (any_last ys y);
}
  where
    by_others : (o : Option (List spec.Argument)) → AreGiven table env new (with_last o y None)
    by_others None = typed
    by_others (Some xs) = typed

-- the same by what was found of it
pub given_found : (table : Table) (env : Env) (old new : Given) (a : Found) (s : Typed) (ys : List Judged) (y : Judged) → new.are_typed ≡ old.are_typed →
    new.arguments.items ≡ old.arguments.items ++ (record { typing = s; look = a.look }) ∷ [] → new.holds_sizeof ≡ (old.holds_sizeof || a.look.holds_sizeof) → a.typing ≡ Some s → IsFound table env a y →
    IsGiven table env old ys → IsGiven table env new (ys ++ y ∷ [])
given_found table env old new a s ys y typed items holds is found given = by_typing y.typing refl found.typing
  where
    by_typing : (o : Option Typing) → y.typing ≡ o → IsFoundTyping table a o → IsGiven table env new (ys ++ y ∷ [])
    by_typing None e h = absurd (none-some s (sym h ∙ is))
    by_typing (Some x) e h =
        given_some table env old new (record { typing = s; look = a.look }) ys y x typed items holds e (record { typing = (part_of table a s x is h).typing; look = found.look }) given

pub given_silent : (table : Table) (env : Env) (old new : Given) (a : Found) (ys : List Judged) (y : Judged) → new.are_typed ≡ false → new.holds_sizeof ≡ (old.holds_sizeof || a.look.holds_sizeof) →
    a.typing ≡ None → IsFound table env a y → IsGiven table env old ys → IsGiven table env new (ys ++ y ∷ [])
given_silent table env old new a ys y typed holds is found given = by_typing y.typing refl found.typing
  where
    by_typing : (o : Option Typing) → y.typing ≡ o → IsFoundTyping table a o → IsGiven table env new (ys ++ y ∷ [])
    by_typing None e h = given_none table env old new ys y a.look.holds_sizeof typed holds found.look.holds_sizeof e given
    by_typing (Some x) e h = absurd (none-some h.0 (sym is ∙ h.1))

-- ---- where an argument stands

pub placed_last : (env : Env) (ps : List Passing) (es : List Expr) (e : Expr) →
    placed_arguments expression env ps (es ++ e ∷ []) ≡
    placed_arguments expression env ps es ++ (as_given (slice_get ps (length es)) (extend env (added_by (found_of (placed_arguments expression env ps es)))), e) ∷ []
placed_last env [] [] e = ap (λ env. (as_operand env, e) ∷ []) (sym (extend_nothing env))
placed_last env (p ∷ ps) [] e = ap (λ env. (as_passed p env, e) ∷ []) (sym (extend_nothing env))
placed_last env [] (d ∷ es) e =
    let y = expression d (as_operand env) in
    let next = extend env y.adds in
    let rest = placed_arguments expression next [] es in
    ap (λ places. (as_operand env, d) ∷ places) (placed_last next [] es e ∙ ap (λ env. rest ++ (as_operand env, e) ∷ []) (extend_both env y.adds (added_by (found_of rest))))
placed_last env (p ∷ ps) (d ∷ es) e =
    let y = expression d (as_passed p env) in
    let next = extend env y.adds in
    let rest = placed_arguments expression next ps es in
    ap (λ places. (as_passed p env, d) ∷ places)
    (placed_last next ps es e ∙ ap (λ env. rest ++ (as_given (slice_get ps (length es)) env, e) ∷ []) (extend_both env y.adds (added_by (found_of rest))))

-- it differs from the environment behind those before it only in what it stands as
abbrev pub in_place_of : Env → Env → Env
in_place_of env inner = record env { role = inner.role; in_size = inner.in_size }

pub given_is : (o : Option Passing) (env : Env) → as_given o env ≡ in_place_of env (as_given o env)
given_is None env = refl
given_is (Some (Converted t)) env = refl
given_is (Some (NullFor t code)) env = refl
given_is (Some Routine) env = refl
given_is (Some Size) env = refl

pub nodes_last : (places : List (forms.Placed Expr)) (p : forms.Placed Expr) → nodes_of (places ++ p ∷ []) ≡ nodes_of places ++ nodes_of (p ∷ [])
nodes_last [] p = refl
nodes_last (q ∷ places) p = ap (λ ns. nodes_of (q ∷ []) ++ ns) (nodes_last places p)

-- the arguments up to one of them
pub argument_taken : (es : List Expr) (i : ℕ) (e : Expr) → e ≡ get_or es i e → i < length es → take i es ++ e ∷ [] ≡ take (i + 1) es
argument_taken es i e is below = sym (take_more es i e below ∙ ap (λ e. take i es ++ e ∷ []) (sym is))

-- ---- the rule of calls

pub given_typed : (table : Table) (env : Env) (given : Given) (o : Option (List spec.Argument)) (x : spec.Argument) (r : Ruled) → given.are_typed ≡ true → AreGiven table env given o →
    ((xs : List spec.Argument) → AreArguments table env given.arguments.items xs → IsRuled table r (call_rule env x xs)) → IsRuled table r (with_arguments o (call_rule env x))
given_typed table env given None x r typed h f = absurd (false≢true (sym h ∙ typed))
given_typed table env given (Some xs) x r typed h f = f xs h.1

pub given_untyped : (table : Table) (env : Env) (given : Given) (o : Option (List spec.Argument)) (x : spec.Argument) (r : Ruled) → given.are_typed ≡ false → AreGiven table env given o →
    IsRuled table r Silent → IsRuled table r (with_arguments o (call_rule env x))
given_untyped table env given None x r typed h f = f
given_untyped table env given (Some xs) x r typed h f = absurd (false≢true (sym typed ∙ h.0))

-- ---- what an argument stands as

module _ (table : Table) (env : Env) (in_size : Bool) (same : in_size ≡ env.in_size) where
  pub stands_converted : (t : ExprType) (p : Option Passing) → IsPassedAt table (Some (passing.Converted t)) p → StandsAs table (record { role = role.ConvertedTo t; in_size = in_size }) (as_given p env)
  stands_converted t None h = absurd h
  stands_converted t (Some (Converted u)) h = record { role = ap ConvertedTo h.1; in_size = same }
  stands_converted t (Some (NullFor u code)) h = absurd h
  stands_converted t (Some Routine) h = absurd h
  stands_converted t (Some Size) h = absurd h

  pub stands_routine : (p : Option Passing) → IsPassedAt table (Some passing.Routine) p → StandsAs table (record { role = role.Routine; in_size = in_size }) (as_given p env)
  stands_routine None h = absurd h
  stands_routine (Some (Converted u)) h = absurd h
  stands_routine (Some (NullFor u code)) h = absurd h
  stands_routine (Some Routine) h = record { role = refl; in_size = same }
  stands_routine (Some Size) h = absurd h

  pub stands_size : (p : Option Passing) → IsPassedAt table (Some passing.Size) p → StandsAs table (record { role = role.Operand; in_size = true }) (as_given p env)
  stands_size None h = absurd h
  stands_size (Some (Converted u)) h = absurd h
  stands_size (Some (NullFor u code)) h = absurd h
  stands_size (Some Routine) h = absurd h
  stands_size (Some Size) h = record { role = refl; in_size = refl }

  pub stands_null : (code : Code) (p : Option Passing) → IsPassedAt table (Some (passing.NullFor code)) p → StandsAs table (record { role = role.Operand; in_size = in_size }) (as_given p env)
  stands_null code None h = absurd h
  stands_null code (Some (Converted u)) h = absurd h
  stands_null code (Some (NullFor u other)) h = record { role = refl; in_size = same }
  stands_null code (Some Routine) h = absurd h
  stands_null code (Some Size) h = absurd h

  pub stands_further : (p : Option Passing) → IsPassedAt table None p → StandsAs table (record { role = role.Operand; in_size = in_size }) (as_given p env)
  stands_further None h = record { role = refl; in_size = same }
  stands_further (Some pass) h = absurd h

-- there is no function: nothing is known of how arguments are passed
pub none_passed : (table : Table) (f : Found) (x : Judged) (index : ℕ) → f.typing ≡ None → IsFoundTyping table f x.typing → IsPassedAt table None (slice_get (forms.passes_of x x.typing) index)
none_passed table f x index is found = by_typing x x.typing found
  where
    by_typing : (x : Judged) (o : Option Typing) → IsFoundTyping table f o → IsPassedAt table None (slice_get (forms.passes_of x o) index)
    by_typing x None h = tt
    by_typing x (Some t) h = absurd (none-some h.0 (sym is ∙ h.1))

-- of a function with a typing
pub some_passed : (table : Table) (f : Found) (s : Typed) (x : Judged) (index : ℕ) (r : Option passings.Passing) → f.typing ≡ Some s → IsFoundTyping table f x.typing →
    ((u : Typing) → IsTyping table s u → IsPassedAt table r (slice_get (spec.passes_by (spec.library_called x.look.word) (spec.signature_of u)) index)) →
    IsPassedAt table r (slice_get (forms.passes_of x x.typing) index)
some_passed table f s x index r is found each = by_typing x.typing found
  where
    by_typing : (o : Option Typing) → IsFoundTyping table f o → IsPassedAt table r (slice_get (forms.passes_of x o) index)
    by_typing None h = absurd (none-some s (sym h ∙ is))
    by_typing (Some u) h = each u (part_of table f s u is h).typing
