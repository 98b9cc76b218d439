-- Parameters are told one after another (C99 6.7.5.3).
use Rattle.std.proofs.Common.{◌≡◌, ◌∙◌, ◌++◌, ◌+◌, ◌<◌, ◌≤◌, ◌||◌, ◌&&◌, ℕ, zero, suc, Bool, true, false, not, List, [], ◌∷◌, Option, Some, None, All, IfSome, length, take, get_or, refl, sym, ap, subst, arith, append_assoc}
use Rattle.std.specs.Prelude.{if◌then◌else◌, option_map}
use Rattle.std.proofs.lemmas.List.{append-nil, map-append}
use Rattle.std.proofs.lemmas.List.Elements.{All-push}
use Rattle.lk_tree.specs.declared.expression.Parameter.{Parameter}
use Rattle.lk_types.specs.Building.{IsPassed}
use Rattle.lk_types.specs.Table.{Table}
use Rattle.lk_typed.specs.Env.{Additions, Declared, Env, StructStep, Tag, both, extend, nothing}
use Rattle.lk_typed.specs.Expressions.{parameter_found}
use Rattle.lk_typed.specs.Layers.{ParameterTeller, ParametersTold, each_parameter, no_parameter, one_more, parameters_of}
use Rattle.lk_typed.specs.Meaning.{meaning}
use Rattle.lk_typed.specs.Nodes.{AParameter, at}
use Rattle.lk_typed.specs.Parts.{is_lone, parameters_in_turn, tellers}
use Rattle.lk_typed.specs.Told.{TypeTold}
use Rattle.lk_typed.specs.Ty.{Ty}
use Rattle.lk_found.proofs.Environments.{extend_both, extend_nothing}
use Rattle.lk_found.specs.Parameters.{has_void, types_listed, with_last}
use Rattle.lk_found.specs.Shapes.{Form, APointer, AnArray, AFunction, params_in}
use Rattle.lk_found.specs.declared.parameters.Listed.{Listed}

-- ---- additions and truth values

listed_as : List Declared → List Tag → List StructStep → Additions
listed_as ds ts ss = record { declared = ds; tags = ts; structs = ss }

lists_same : {ds es : List Declared} {ts us : List Tag} {ss rs : List StructStep} → ds ≡ es → ts ≡ us → ss ≡ rs → listed_as ds ts ss ≡ listed_as es us rs
lists_same p q r = cc

pub both_assoc : (a b c : Additions) → both (both a b) c ≡ both a (both b c)
unfolding listed_as
both_assoc a b c = lists_same (append_assoc a.declared b.declared c.declared) (append_assoc a.tags b.tags c.tags) (append_assoc a.structs b.structs c.structs)

pub both_nothing : (a : Additions) → both a nothing ≡ a
unfolding listed_as
both_nothing a = lists_same (append-nil a.declared) (append-nil a.tags) (append-nil a.structs)

or_assoc : (a b c : Bool) → ((a || b) || c) ≡ (a || (b || c))
or_assoc true b c = refl
or_assoc false b c = refl

pub or_nothing : (b : Bool) → (b || false) ≡ b
or_nothing true = refl
or_nothing false = refl

-- ---- one more parameter is told

pub record IsLast (ts : List ParameterTeller) (p : ParameterTeller) (e : Env) (last : TypeTold) : Type 0 where
  pub additions : (each_parameter (ts ++ p ∷ []) e).additions ≡ both (each_parameter ts e).additions last.additions
  pub types : (each_parameter (ts ++ p ∷ []) e).types ≡ with_last (each_parameter ts e).types last.type
  pub void : has_void (ts ++ p ∷ []) e ≡ (has_void ts e || last.is_bare_void)
  pub holds : (each_parameter (ts ++ p ∷ []) e).holds_sizeof ≡ ((each_parameter ts e).holds_sizeof || last.holds_sizeof)

one_last : (t : Option Ty) → one_more t (Some []) ≡ with_last (Some []) t
one_last None = refl
one_last (Some t) = refl

more_last : (t : Option Ty) (ts : Option (List Ty)) (u : Option Ty) → one_more t (with_last ts u) ≡ with_last (one_more t ts) u
more_last None ts u = refl
more_last (Some t) None u = refl
more_last (Some t) (Some ts) None = refl
more_last (Some t) (Some ts) (Some u) = refl

pub is_last : (ts : List ParameterTeller) (p : ParameterTeller) (e : Env) → IsLast ts p e (p (extend e (each_parameter ts e).additions))
is_last [] p e = subst (IsLast [] p e) (ap p (sym (extend_nothing e))) (record {
  additions = both_nothing (p e).additions;
  types = one_last (p e).type;
  void = or_nothing (p e).is_bare_void;
  holds = or_nothing (p e).holds_sizeof;
})
is_last (t ∷ ts) p e =
    let first = t e in
    let behind = extend e first.additions in
    let all = each_parameter ts behind in
    let last = p (extend behind all.additions) in
    let h = is_last ts p behind in
    subst (IsLast (t ∷ ts) p e) (ap p (extend_both e first.additions all.additions)) (record {
      additions = ap (both first.additions) h.additions ∙ sym (both_assoc first.additions all.additions last.additions);
      types = ap (one_more first.type) h.types ∙ more_last first.type all.types last.type;
      void = ap (λ b. first.is_bare_void || b) h.void ∙ sym (or_assoc first.is_bare_void (has_void ts behind) last.is_bare_void);
      holds = ap (λ b. first.holds_sizeof || b) h.holds ∙ sym (or_assoc first.holds_sizeof all.holds_sizeof last.holds_sizeof);
    })

pub nodes_last : (lone : Bool) (ps : List Parameter) (p : Parameter) (e : Env) →
    parameters_in_turn lone e (ps ++ p ∷ []) ≡ parameters_in_turn lone e ps ++ at (extend e (each_parameter (tellers ps) e).additions) (AParameter lone p) ∷ []
nodes_last lone [] p e = ap (λ e. at e (AParameter lone p) ∷ []) (sym (extend_nothing e))
nodes_last lone (q ∷ ps) p e =
    let a = (parameter_found q e).additions in
    ap (λ ns. at e (AParameter lone q) ∷ ns) (nodes_last lone ps p (extend e a)) ∙
    ap (λ e'. at e (AParameter lone q) ∷ parameters_in_turn lone (extend e a) ps ++ at e' (AParameter lone p) ∷ []) (extend_both e a (each_parameter (tellers ps) (extend e a)).additions)

pub tellers_last : (ps : List Parameter) (p : Parameter) → tellers (ps ++ p ∷ []) ≡ tellers ps ++ parameter_found p ∷ []
tellers_last ps p = map-append (λ p. parameter_found p) ps (p ∷ [])

-- ---- types in the table

abbrev pub params_of : Form → Option (List Ty)
params_of APointer = None
params_of (AnArray size) = None
params_of (AFunction params dots) = params

pub params_last : (table : Table) (ts : Option (List ℕ)) (t : Option ℕ) → params_in table (with_last ts t) ≡ with_last (params_in table ts) (option_map (meaning table) t)
params_last table None t = refl
params_last table (Some ts) None = refl
params_last table (Some ts) (Some t) = ap Some (map-append (meaning table) ts (t ∷ []))

pub last_known : (table : Table) (ts : Option (List ℕ)) (t : Option ℕ) → IfSome ts (All (IsPassed table)) → IfSome t (IsPassed table) → IfSome (with_last ts t) (All (IsPassed table))
last_known table None t known passed = tt
last_known table (Some ts) None known passed = tt
last_known table (Some ts) (Some t) known passed = All-push (IsPassed table) ts t known passed

-- ---- all of a list

-- what the parameters of a list tell, by what each of them tells
pub record IsAll (told all : ParametersTold) (is_void : Bool) : Type 0 where
  pub additions : told.additions ≡ all.additions
  pub types : told.types ≡ (if is_void then Some [] else all.types)
  pub holds : told.holds_sizeof ≡ all.holds_sizeof

abbrev one_told : TypeTold → ParametersTold
one_told p = record { additions = both p.additions nothing; types = one_more p.type (Some []); holds_sizeof = p.holds_sizeof || false }

lone_told : (p : TypeTold) (v dots : Bool) → IsAll (if v && not dots then record no_parameter { additions = p.additions; holds_sizeof = p.holds_sizeof } else one_told p) (one_told p) (not dots && (v || false))
lone_told p true true = record { additions = refl; types = refl; holds = refl }
lone_told p true false = record { additions = sym (both_nothing p.additions); types = refl; holds = sym (or_nothing p.holds_sizeof) }
lone_told p false true = record { additions = refl; types = refl; holds = refl }
lone_told p false false = record { additions = refl; types = refl; holds = refl }

pub all_told : (ps : List Parameter) (dots : Bool) (e : Env) → IsAll (parameters_of (tellers ps) dots e) (each_parameter (tellers ps) e) (is_lone ps dots && has_void (tellers ps) e)
all_told [] dots e = record { additions = refl; types = refl; holds = refl }
all_told (p ∷ []) dots e = lone_told (parameter_found p e) (parameter_found p e).is_bare_void dots
all_told (p ∷ q ∷ ps) dots e = record { additions = refl; types = refl; holds = refl }

pub no_params : (table : Table) (b : Bool) (ts : Option (List ℕ)) → params_in table (if b then Some [] else ts) ≡ (if b then Some [] else params_in table ts)
no_params table true ts = refl
no_params table false ts = refl

no_params_known : (table : Table) (b : Bool) (ts : Option (List ℕ)) → IfSome ts (All (IsPassed table)) → IfSome (if b then Some [] else ts) (All (IsPassed table))
no_params_known table true ts known = λ k d within. absurd (omega (arith, within))
no_params_known table false ts known = known

pub all_types_known : (table : Table) (lone : Bool) (listed : Listed) (types : Option (List ℕ)) → types ≡ (if lone && listed.has_void then Some [] else types_listed listed) →
    IfSome (types_listed listed) (All (IsPassed table)) → IfSome types (All (IsPassed table))
all_types_known table lone listed types is known = subst (λ ts. IfSome ts (All (IsPassed table))) (sym is) (no_params_known table (lone && listed.has_void) (types_listed listed) known)

-- ---- in a loop

pub take_next : {A : Type 0} (xs : List A) (i : ℕ) (x : A) → x ≡ get_or xs i x → i < length xs → take i xs ++ x ∷ [] ≡ take (i + 1) xs
take_next [] i x is within = absurd (omega (arith, within))
take_next (y ∷ xs) zero x is within = ap (λ z. z ∷ []) is
take_next (y ∷ xs) (suc i) x is within =
    let one_more : suc (i + 1) ≡ suc i + 1 = omega arith in ap (λ ys. y ∷ ys) (take_next xs i x is (omega (arith, within))) ∙ ap (λ n. take n (y ∷ xs)) one_more

pub take_all : {A : Type 0} (xs : List A) (i : ℕ) → length xs ≤ i → take i xs ≡ xs
take_all [] zero past = refl
take_all [] (suc i) past = refl
take_all (y ∷ xs) zero past = absurd (omega (arith, past))
take_all (y ∷ xs) (suc i) past = ap (λ ys. y ∷ ys) (take_all xs i (omega (arith, past)))

pub none_known : (table : Table) (listed : Listed) → types_listed listed ≡ Some [] → IfSome (types_listed listed) (All (IsPassed table))
none_known table listed types = subst (λ ts. IfSome ts (All (IsPassed table))) (sym types) (λ k d within. absurd (omega (arith, within)))
