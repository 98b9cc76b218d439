-- What each layer of a declaration tells, from what its parts tell (C99 6.7.2 to 6.7.6).
use Rattle.std.specs.Prelude.{ℕ, ◌&&◌, ◌||◌, Bool, true, false, not, Option, Some, None, List, [], ◌∷◌, ◌++◌, if◌then◌else◌, ℤ}
use Rattle.lk_base.specs.declared.spot.Spot.{Spot}
use Rattle.lk_typed.specs.DeclarationRules.{InType, type_in}
use Rattle.lk_typed.specs.DeclaratorRules.{Size, adjusted, array_made, array_rules, function_rules, parameter_rules, pointer_rules}
use Rattle.lk_typed.specs.Env.{Env, Additions, Name, AnObject, AFaultyName, Field, nothing, both, past_scope, extend, enter}
use Rattle.lk_typed.specs.Faults.{Breach}
use Rattle.lk_typed.specs.MemberRules.{is_over, large_struct_rules, member_rules, within_bounds}
use Rattle.lk_typed.specs.Sizes.{is_broken}
use Rattle.lk_typed.specs.Told.{SpecifierTold, SpecifierTeller, Named, Span, DeclaratorTold, TypeTold, MemberTold, ItemTold, MemberTeller, with_optional, unless_broken, then_type, some_type, specifiers, type_of, then_member, no_member, enumerator, declares}
use Rattle.lk_typed.specs.Ty.{Ty, Pointer, Function, is_void, types_of}

-- a form that waits for the place and number of its node
abbrev pub Placed : Type 0 → Type 0
Placed A = Spot → ℕ → A

-- ---- declarators (C99 6.7.5)

abbrev pub bare : DeclaratorTold
bare =
    record {
      name = None;
      additions = λ env. nothing;
      type = λ span t. t;
      is_large = λ span t. false;
      parameters = λ env. nothing;
      holds_sizeof = λ env. false;
    }

-- the span of a declarator that begins in this environment
abbrev pub span_of : Env → Bool → DeclaratorTold → Span
span_of env may_be_absent d =
    record { env = env; behind = extend env (d.additions env); may_be_absent = may_be_absent }

-- the type that a declarator makes, behind the type on its left
abbrev pub type_made : Env → Bool → Option Ty → DeclaratorTold → Option Ty
type_made env may_be_absent t d = d.type (span_of env may_be_absent d) t

-- what a form makes of the type on its left, which is then on the left of the declarator inside
abbrev pub Maker : Type 0
Maker = Span → Option Ty → Option Ty

-- a type that is over a bound isn't made
abbrev pub type_through : Maker → DeclaratorTold → Span → Option Ty → Option Ty
type_through make inner span t = inner.type span (within_bounds span.behind (make span t))

abbrev pub is_large_through : Maker → DeclaratorTold → Span → Option Ty → Bool
is_large_through make inner span t =
    is_over span.behind (make span t) || inner.is_large span (within_bounds span.behind (make span t))

abbrev pub pointer_made : Option Ty → Option Ty
pointer_made t = unless_broken (pointer_rules t) (some_type Pointer t)

-- `* declarator`
abbrev pub pointer_told : DeclaratorTold → DeclaratorTold
pointer_told inner =
    record inner { type = type_through (λ span t. pointer_made t) inner; is_large = is_large_through (λ span t. pointer_made t) inner }

-- the elements are asked where the declarator begins
abbrev pub array_by : Span → Size → Option Ty → Option Ty
array_by span n t =
    unless_broken (array_rules span.env span.may_be_absent t n) (then_type t (array_made span.env.structs n))

-- `declarator[size]`: the size stands behind the declarator inside
abbrev pub array_told : DeclaratorTold → (Env → Size) → (Env → Additions) → (Env → Bool) → DeclaratorTold
array_told inner size added holds =
    let make =
    λ (span : Span) (t : Option Ty). array_by span (size (extend span.env (inner.additions span.env))) t in
    record {
      name = inner.name;
      additions = λ env. let a = inner.additions env in both a (added (extend env a));
      type = type_through make inner;
      is_large = is_large_through make inner;
      parameters = inner.parameters;
      holds_sizeof = λ env. inner.holds_sizeof env || holds (extend env (inner.additions env));
    }

-- ---- parameters

-- what the parameters of a list tell, each in the environment behind those before it
abbrev pub ParameterTeller : Type 0
ParameterTeller = Env → TypeTold

pub record ParametersTold : Type 0 where
  pub additions : Additions
  -- their types, missing where one of them is faulty
  pub types : Option (List Ty)
  pub holds_sizeof : Bool

abbrev pub no_parameter : ParametersTold
no_parameter = record { additions = nothing; types = Some []; holds_sizeof = false }

abbrev pub one_more : Option Ty → Option (List Ty) → Option (List Ty)
one_more None ts = None
one_more (Some t) None = None
one_more (Some t) (Some ts) = Some (t ∷ ts)

abbrev pub each_parameter : List ParameterTeller → Env → ParametersTold
each_parameter [] env = no_parameter
each_parameter (p ∷ ps) env =
    let first = p env in
    let others = each_parameter ps (extend env first.additions) in
    record {
      additions = both first.additions others.additions;
      types = one_more first.type others.types;
      holds_sizeof = first.holds_sizeof || others.holds_sizeof;
    }

-- `(void)` is no parameter (C99 6.7.5.3, 10)
abbrev pub unless_void : ParameterTeller → Bool → Env → ParametersTold
unless_void p dots env =
    if (p env).is_bare_void && not dots
    then record no_parameter { additions = (p env).additions; holds_sizeof = (p env).holds_sizeof }
    else each_parameter (p ∷ []) env

abbrev pub parameters_of : List ParameterTeller → Bool → Env → ParametersTold
parameters_of [] dots env = no_parameter
parameters_of (p ∷ []) dots env = unless_void p dots env
parameters_of (p ∷ q ∷ ps) dots env = each_parameter (p ∷ q ∷ ps) env

abbrev pub function_type : Bool → Option (List Ty) → Ty → Option Ty
function_type dots None result = None
function_type dots (Some params) result = Some (Function result (types_of params) dots)

abbrev pub function_by : Bool → Option (List Ty) → Option Ty → Option Ty
function_by dots types t = unless_broken (function_rules t) (then_type t (function_type dots types))

-- `declarator(parameters)`, where the declarator may be the name itself, perhaps in parentheses
abbrev pub function_told : DeclaratorTold → Bool → List ParameterTeller → Bool → DeclaratorTold
function_told inner is_beside ps dots =
    let make =
    λ (span : Span) (t : Option Ty). function_by dots
    (parameters_of ps dots (enter (extend span.env (inner.additions span.env)))).types t in
    record {
      name = inner.name;
      additions = λ env. let a = inner.additions env in
          both a (past_scope (parameters_of ps dots (enter (extend env a))).additions);
      type = type_through make inner;
      is_large = is_large_through make inner;
      parameters = if is_beside then (λ env. (parameters_of ps dots env).additions) else inner.parameters;
      holds_sizeof =
          λ env. inner.holds_sizeof env
          || (parameters_of ps dots (enter (extend env (inner.additions env)))).holds_sizeof;
    }

-- a declarator with the question whether it is the name alone, perhaps in parentheses
pub record DeclaratorLayer : Type 0 where
  pub told : DeclaratorTold
  pub is_name : Bool

abbrev pub layer : DeclaratorTold → Bool → DeclaratorLayer
layer told is_name = record { told = told; is_name = is_name }

abbrev pub inner_of : Option DeclaratorLayer → DeclaratorLayer
inner_of told = with_optional (layer bare false) (λ inner. inner) told

abbrev pub named_told : Name → Placed DeclaratorTold
named_told name spot ordinal =
    record bare { name = Some (record { name = name; spot = spot; ordinal = ordinal }) }

abbrev pub pointer_layer : Option DeclaratorLayer → DeclaratorLayer
pointer_layer inner = layer (pointer_told (inner_of inner).told) false

abbrev pub function_layer : Option DeclaratorLayer → List ParameterTeller → Bool → DeclaratorLayer
function_layer inner ps dots =
    layer (function_told (inner_of inner).told (inner_of inner).is_name ps dots) false

-- ---- a declarator behind its specifiers

-- the type, and the environment behind them both
pub record Whole : Type 0 where
  pub type : Option Ty
  pub additions : Additions
  pub name : Option Named
  pub holds_sizeof : Bool

abbrev pub with_declarator : Env → Bool → SpecifierTold → Option DeclaratorLayer → Whole
with_declarator env may_be_absent told inner =
    let d = (inner_of inner).told in
    let after = extend env told.additions in
    record {
      type = type_made after may_be_absent (type_in InType told) d;
      additions = both told.additions (d.additions after);
      name = d.name;
      holds_sizeof = told.holds_sizeof || d.holds_sizeof after;
    }

-- a parameter's own declaration (C99 6.2.1, 4)
abbrev pub parameter_name : Option Named → Option Ty → Additions
parameter_name None t = nothing
parameter_name (Some named) None = declares named.name named.ordinal AFaultyName
parameter_name (Some named) (Some t) = declares named.name named.ordinal (AnObject t false)

abbrev pub is_missing : {A : Type 0} → Option A → Bool
is_missing None = true
is_missing (Some a) = false

abbrev pub has_name : Option Named → Bool
has_name None = false
has_name (Some named) = true

-- a parameter's type, adjusted, unless a rule is broken or it is over a bound; void with a name is 25 there
abbrev pub parameter_type : Env → Option Named → Option Ty → Option Ty
parameter_type env named None = None
parameter_type env named (Some t) =
    if is_void t then None else unless_broken (parameter_rules (has_name named) (Some t))
    (within_bounds env (Some (adjusted t)))

abbrev pub is_void_type : Option Ty → Bool
is_void_type None = false
is_void_type (Some t) = is_void t

abbrev pub parameter_told : List SpecifierTeller → Option DeclaratorLayer → ParameterTeller
parameter_told ss inner env =
    let told = specifiers ss env false in
    let whole = with_declarator env true told inner in
    let t = parameter_type (extend env whole.additions) whole.name whole.type in
    record {
      additions = both whole.additions (parameter_name whole.name t);
      type = t;
      is_bare_void = is_missing inner && is_void_type (type_of told);
      holds_sizeof = whole.holds_sizeof;
    }

abbrev pub type_name_told : List SpecifierTeller → Option DeclaratorLayer → Env → TypeTold
type_name_told ss inner env =
    let whole = with_declarator env false (specifiers ss env false) inner in
    record { additions = whole.additions; type = whole.type; is_bare_void = false; holds_sizeof = whole.holds_sizeof }

-- ---- members

-- a declarator of a member, given the environment, the type on its left and the fields before it
abbrev pub MemberDeclaratorTeller : Type 0
MemberDeclaratorTeller = Env → Option Ty → List Field → MemberTold

abbrev pub faulty_member : Additions → Bool → MemberTold
faulty_member additions holds =
    record { additions = additions; fields = []; sound = false; holds_sizeof = holds }

-- the fields of a member that breaks these rules
abbrev pub field_unless : List Breach → Name → Ty → MemberTold → MemberTold
field_unless [] name t faulty = record faulty { fields = record { name = name; type = t } ∷ []; sound = true }
field_unless (breach ∷ others) name t faulty = faulty

-- a member whose type is a faulty struct is faulty, and breaks no rule by that
abbrev pub field_told : Env → List Field → Option Named → Option Ty → MemberTold → MemberTold
field_told env before None t faulty = faulty
field_told env before (Some named) None faulty = faulty
field_told env before (Some named) (Some t) faulty =
    if is_broken env.structs t then faulty
    else field_unless (member_rules env before named.name t ++ large_struct_rules env before t)
    named.name t faulty

abbrev pub plain_member : DeclaratorLayer → MemberDeclaratorTeller
plain_member inner env t before =
    let d = inner.told in
    field_told (extend env (d.additions env)) before d.name (type_made env false t d)
    (faulty_member (d.additions env) (d.holds_sizeof env))

abbrev pub declarators_in_turn : List MemberDeclaratorTeller → MemberDeclaratorTeller
declarators_in_turn [] env t before = no_member
declarators_in_turn (d ∷ ds) env t before = let first = d env t before in
    then_member first (declarators_in_turn ds (extend env first.additions) t (before ++ first.fields))

abbrev pub member_told : List SpecifierTeller → List MemberDeclaratorTeller → MemberTeller
member_told ss ds env before =
    let told = specifiers ss env false in
    let inside = declarators_in_turn ds (extend env told.additions) (type_in InType told) before in
    record inside { additions = both told.additions inside.additions; holds_sizeof = told.holds_sizeof || inside.holds_sizeof }

-- ---- enumerators

abbrev pub item_told : Name → ℕ → Additions → Option ℤ → Bool → ItemTold
item_told name n added value holds =
    record { additions = both added (declares name n (enumerator value)); value = value; holds_sizeof = holds }
