-- The names that the nodes of a numbered source declare are told apart by their numbers.
use Rattle.std.proofs.Common.{◌≡◌, ◌∙◌, ◌≤◌, inl, inr, ℕ, Bool, true, false, if◌then◌else◌, List, [], ◌∷◌, ◌++◌, Option, Some, None, refl, sym, ap, subst, arith}
use Rattle.std.proofs.lemmas.Option.{same_Some}
use Rattle.std.proofs.lemmas.Slice.Eq.{bytes_eq-Decides}
use Rattle.lk_tree.specs.Numbers.{numbered}
use Rattle.lk_tree.specs.declared.declaration.Declare.{Declare}
use Rattle.lk_tree.specs.declared.declaration.InitDeclarator.{InitDeclarator}
use Rattle.lk_tree.specs.declared.declaration.Init.{Init}
use Rattle.lk_tree.specs.declared.expression.Declarator.{Declarator}
use Rattle.lk_tree.specs.declared.specifiers.Storage.{Storage}
use Rattle.lk_tree.specs.declared.statement.Function.{Function as Definition}
use Rattle.lk_tree.specs.declared.statement.Unit.{Unit}
use Rattle.lk_typed.specs.DeclarationRules.{AtFile, Defined, Given, InDeclaration, InDefinition, Scope, type_in}
use Rattle.lk_typed.specs.Declarations.{declared_as, given_by, is_alone, may_lack_size, name_adds, named_additions}
use Rattle.lk_typed.specs.Labels.{labels}
use Rattle.lk_typed.specs.Layers.{type_made}
use Rattle.lk_typed.specs.Parts.{items_in_turn, specifiers_parts}
use Rattle.lk_typed.specs.StatementRules.{in_function}
use Rattle.lk_tree.specs.declared.statement.StmtForm.{out-StmtForm}
use Rattle.lk_typed.specs.Entities.{DeclaresName, IsDeclaratorOf, NameDeclared, StandsAmong, behind_name, defined_type, specifiers_of}
use Rattle.lk_typed.specs.Entities.DeclaresName.{in_declaration, by_definition}
use Rattle.lk_typed.specs.Entities.StandsAmong.{first, later}
use Rattle.lk_typed.specs.Env as env_specs
use Rattle.lk_typed.specs.Env.{Additions, Declared, Env, Name, extend, is_name, latest, look_up, nothing, or_else}
use Rattle.lk_typed.specs.Expressions.{declarator_found, specifiers_found}
use Rattle.lk_typed.specs.NodeParts.{body_items, declared_left, declarators_in_turn, defined_left, in_body, initialiser_part, parts, type_declared}
use Rattle.lk_typed.specs.Nodes.{Node, ADeclaration, ADeclarator, ADefinition, Left, Placed, at}
use Rattle.lk_typed.specs.Stands.{IsIn}
use Rattle.lk_typed.specs.Stands.Stands.{here}
use Rattle.lk_typed.specs.Told.{Named, SpecifierTold}
use Rattle.lk_typed.specs.Ty.{Ty}
use Rattle.lk_typed.specs.Units.{IsNode, at_end}
use Rattle.lk_typed.specs.Units.IsNode.{node_of}
use Rattle.lk_nodes.specs.Kinds as kinds
use Rattle.lk_nodes.specs.Kinds.{kind_of, number_of}
use Rattle.lk_nodes.specs.Laws.{NamesAreThoseOfDeclarators, NamesAreToldApart, DeclaredNamesHaveTypes, DefinedNamesHaveTypes}
use Rattle.lk_nodes.proofs.Declared.{Chain, IsNamedBy, chain_stands, has_its_name}
use Rattle.lk_nodes.proofs.Declared.Chain.{itself, deeper}
use Rattle.lk_nodes.proofs.Laid.{InTurn, IsLaid, place, StandsIn, lower, one_above, same_part, within, within_parts}
use Rattle.lk_nodes.proofs.Laid.InTurn.{next}
use Rattle.lk_nodes.proofs.Laid.IsLaid.{is_laid}
use Rattle.lk_nodes.proofs.Laid.Laid.{laid}
use Rattle.lk_nodes.proofs.Sources.{externals_laid, node_laid}

-- ---- the innermost declaration of a name that was just declared

-- the last one that passes is found behind others
latest_behind : {A : Type 0} (test : A → Bool) (xs ys : List A) (a : A) → latest test ys ≡ Some a → latest test (xs ++ ys) ≡ Some a
latest_behind test [] ys a is = is
latest_behind test (x ∷ xs) ys a is = ap (λ found. or_else found (if test x then Some x else None)) (latest_behind test xs ys a is)

-- one that passes is found alone
latest_alone : {A : Type 0} (test : A → Bool) (a : A) → test a ≡ true → latest test (a ∷ []) ≡ Some a
latest_alone test a is = ap (λ passes. if passes then Some a else None) is

-- behind a name that was declared last the name stands for that
last_declared : (env : Env) (before : Additions) (d : Declared) → look_up (extend env (env_specs.both before (record { declared = d ∷ []; tags = []; structs = [] }))) d.name ≡ Some d
last_declared env before d =
    let test = λ (other : Declared). is_name other.name d.name in
    latest_behind test env.declared (before.declared ++ d ∷ []) d (latest_behind test before.declared (d ∷ []) d (latest_alone test d ((bytes_eq-Decides d.name d.name).1 refl)))

-- the name that was just declared has the number of its declarator
number_of_name : (env after : Env) (before : Additions) (scope : Scope) (ss : List Storage) (given : Given) (init : Option Init) (name : Option Named) (t : Option Ty) (named : Named) (is : Declared) →
    name ≡ Some named → look_up (extend env (env_specs.both before (named_additions after scope ss given init name t))) named.name ≡ Some is → named.ordinal ≡ is.ordinal
number_of_name env after before scope ss given init name t named is has found =
    let d = declared_as after scope ss given init named.name named.ordinal t in
    let now = subst (λ name. look_up (extend env (env_specs.both before (named_additions after scope ss given init name t))) named.name ≡ Some is) has found in
    ap (λ (d : Declared). d.ordinal) (same_Some d is (sym (last_declared env before d) ∙ now))

-- so it is in a declaration
pub number_declared : (scope : Scope) (told : SpecifierTold) (env : Env) (d : InitDeclarator) (named : Named) (is : Declared) → (declarator_found d.declarator).name ≡ Some named →
    look_up (extend env (name_adds scope told env d)) named.name ≡ Some is → named.ordinal ≡ is.ordinal
number_declared scope told env d named is =
    let inner = declarator_found d.declarator in
    let a = inner.additions env in
    number_of_name env (extend env a) a scope told.storages (given_by d.init) d.init inner.name (type_made env (may_lack_size told.storages d.init) (type_in InDeclaration told) inner) named is

-- and in a definition
pub number_defined : (env : Env) (node : Definition) (named : Named) (is : Declared) → (declarator_found node.declarator).name ≡ Some named → look_up (behind_name env node) named.name ≡ Some is → named.ordinal ≡ is.ordinal
number_defined env node named is =
    let told = specifiers_found node.specifiers env false in
    let behind = extend env told.additions in
    let inner = declarator_found node.declarator in
    let after = extend behind (inner.additions behind) in
    number_of_name after after nothing AtFile told.storages Defined None inner.name (type_made behind false (type_in InDefinition told) inner) named is

-- what is in the second of two lists is in both together
in_second : {A : Type 0} (a : A) (xs ys : List A) → IsIn a ys → IsIn a (xs ++ ys)
in_second a [] ys is = is
in_second a (x ∷ xs) ys is = inr (in_second a xs ys is)

-- ---- a name with the declarator that it is declared by

-- a declarator of a declaration, where it stands, declares this name
record DeclaredBy (scope : Scope) (told : SpecifierTold) (env : Env) (d : InitDeclarator) (n : NameDeclared) : Type 0 where
  named : Named
  name : (declarator_found d.declarator).name ≡ Some named
  found : look_up (extend env (name_adds scope told env d)) named.name ≡ Some n.is
  type : type_declared scope told env d ≡ Some n.type
  spot : n.spot ≡ named.spot

-- a definition declares this name
record DefinedBy (env : Env) (node : Definition) (n : NameDeclared) : Type 0 where
  named : Named
  name : (declarator_found node.declarator).name ≡ Some named
  found : look_up (behind_name env node) named.name ≡ Some n.is
  type : defined_type env node ≡ Some n.type
  spot : n.spot ≡ named.spot

-- two names that have all in common are one
one_name : (n n' : NameDeclared) → n.is ≡ n'.is → n.spot ≡ n'.spot → n.type ≡ n'.type → n ≡ n'
one_name n n' is spot type =
    ap (λ is. record { is = is; spot = n.spot; type = n.type }) is ∙ ap (λ spot. record { is = n'.is; spot = spot; type = n.type }) spot ∙ ap (λ type. record { is = n'.is; spot = n'.spot; type = type }) type

-- one declarator declares one name
declared_once : (scope : Scope) (told : SpecifierTold) (env : Env) (d : InitDeclarator) (n n' : NameDeclared) → DeclaredBy scope told env d n → DeclaredBy scope told env d n' → n ≡ n'
declared_once scope told env d n n' a b =
    let named = same_Some _ _ (sym a.name ∙ b.name) in
    let found = ap (λ (named : Named). look_up (extend env (name_adds scope told env d)) named.name) named in
    one_name n n' (same_Some _ _ (sym a.found ∙ found ∙ b.found)) (a.spot ∙ ap (λ (named : Named). named.spot) named ∙ sym b.spot) (same_Some _ _ (sym a.type ∙ b.type))

-- one definition declares one name
defined_once : (env : Env) (node : Definition) (n n' : NameDeclared) → DefinedBy env node n → DefinedBy env node n' → n ≡ n'
defined_once env node n n' a b =
    let named = same_Some _ _ (sym a.name ∙ b.name) in
    let found = ap (λ (named : Named). look_up (behind_name env node) named.name) named in
    one_name n n' (same_Some _ _ (sym a.found ∙ found ∙ b.found)) (a.spot ∙ ap (λ (named : Named). named.spot) named ∙ sym b.spot) (same_Some _ _ (sym a.type ∙ b.type))

module _ (at_end : Env) where
  -- a declarator among others is one of the parts of their declaration
  among_parts : (scope : Scope) (told : SpecifierTold) {env env' : Env} {ds : List InitDeclarator} {d : InitDeclarator} → StandsAmong scope told env ds env' d →
      IsIn (at env' (ADeclarator (declared_left scope told at_end env' d) d.declarator)) (declarators_in_turn at_end scope told env ds)
  among_parts scope told first = inl refl
  among_parts scope told (later {env = env} {d = d} others) = inr (in_second _ (initialiser_part scope told env d) _ (among_parts scope told others))

  -- nodes behind others are laid behind the first number
  behind_parts : {k m : ℕ} (ps : List Placed) {qs : List Placed} → InTurn at_end k (ps ++ qs) m → (j : ℕ) × (k ≤ j) × InTurn at_end j qs m
  behind_parts [] others = (_, omega arith, others)
  behind_parts (p ∷ ps) (next (laid low high inner) others) = let rest = behind_parts ps others in (rest.0, omega (arith, low, high, rest.1), rest.2)

  -- a node stands in the declarator
  abbrev DeclaratorThere : Scope → SpecifierTold → Env → InitDeclarator → Env → Node → Type 0
  DeclaratorThere scope told env d env' node = StandsIn at_end env (ADeclarator (declared_left scope told at_end env d) d.declarator) env' node

  -- of the declarators of a declaration two in which one number stands are one
  one_among : (scope : Scope) (told : SpecifierTold) {env : Env} {ds : List InitDeclarator} {e e' : Env} {d d' : InitDeclarator} → StandsAmong scope told env ds e d → StandsAmong scope told env ds e' d' →
      {n m : ℕ} {x x' : Env} {node node' : Node} → InTurn at_end n (declarators_in_turn at_end scope told env ds) m → DeclaratorThere scope told e d x node → DeclaratorThere scope told e' d' x' node' →
      number_of node ≡ number_of node' → (λ (a b : Env × InitDeclarator). a ≡ b) (e, d) (e', d')
  one_among scope told first first laid_so s t is = refl
  one_among scope told {env = env} (first {d = d}) (later b) (next head others) s t is =
      let rest = behind_parts (initialiser_part scope told env d) others in
      let low = within at_end head s in
      let high = within_parts at_end rest.2 _ (among_parts scope told b) t in
      absurd (omega (arith, low.1, rest.1, high.0, is))
  one_among scope told {env = env} (later {d = d} a) first (next head others) s t is =
      let rest = behind_parts (initialiser_part scope told env d) others in
      let low = within at_end head t in
      let high = within_parts at_end rest.2 _ (among_parts scope told a) s in
      absurd (omega (arith, low.1, rest.1, high.0, is))
  one_among scope told {env = env} (later {d = d} a) (later b) (next head others) s t is =
      one_among scope told a b (behind_parts (initialiser_part scope told env d) others).2 s t is

  -- ---- the declarator of a name, and the part of its node in which it stands by declarators alone

  -- a node that is no declarator has one, as a part of it, with this name
  record HasDeclarator (env : Env) (node : Node) (named : Named) : Type 0 where
    e : Env
    l : Left
    d : Declarator
    none : kind_of node ≡ kinds.Declarator → ⊥
    among : IsIn (at e (ADeclarator l d)) (parts at_end env node)
    by : IsNamedBy at_end e l d named

  -- a node declares a name by a declarator with that name
  record HasItsDeclarator (env : Env) (node : Node) (n : NameDeclared) : Type 0 where
    named : Named
    has : HasDeclarator env node named
    number : named.ordinal ≡ n.is.ordinal
    spot : named.spot ≡ n.spot

  -- a declarator of a declaration is one of its parts
  in_declarators : (scope : Scope) (env : Env) (node : Declare) {e : Env} {d : InitDeclarator} → IsDeclaratorOf scope env node e d →
      IsIn (at e (ADeclarator (declared_left scope (specifiers_of env node) at_end e d) d.declarator)) (parts at_end env (ADeclaration scope node))
  in_declarators scope env node {e = e} {d = d} is =
      let told = specifiers_of env node in
      in_second (at e (ADeclarator (declared_left scope told at_end e d) d.declarator)) (specifiers_parts (is_alone node.declarators) env node.specifiers)
      (declarators_in_turn at_end scope told (extend env told.additions) node.declarators) (among_parts scope told is)

  -- the name of a declarator, whatever is on its left, is that of one in its chain
  has_name : (e : Env) (l : Left) (d : Declarator) {named : Named} → (declarator_found d).name ≡ Some named → IsNamedBy at_end e l d named
  has_name e l d {named = named} name = has_its_name at_end d named name e e l l d itself

  -- a declaration has a declarator with the name of each of its declarators
  of_declaration : (scope : Scope) (env : Env) (node : Declare) {e : Env} {d : InitDeclarator} {named : Named} → IsDeclaratorOf scope env node e d → (declarator_found d.declarator).name ≡ Some named →
      HasDeclarator env (ADeclaration scope node) named
  of_declaration scope env node {e = e} {d = d} is name =
      let left = declared_left scope (specifiers_of env node) at_end e d in
      record { e = e; l = left; d = d.declarator; none = λ same. omega (arith, ap place same); among = in_declarators scope env node is; by = has_name e left d.declarator name }

  -- a definition has a declarator with the name of its declarator
  of_definition : (env : Env) (node : Definition) {named : Named} → (declarator_found node.declarator).name ≡ Some named → HasDeclarator env (ADefinition node) named
  of_definition env node name =
      let told = specifiers_found node.specifiers env false in
      let after = extend env told.additions in
      let left = defined_left told at_end after node in
      let items = items_in_turn (in_function (labels node.body)) (in_body told after node) (body_items (out-StmtForm node.body.form)) in
      record {
        e = after;
        l = left;
        d = node.declarator;
        none = λ same. omega (arith, ap place same);
        among = in_second (at after (ADeclarator left node.declarator)) (specifiers_parts false env node.specifiers) (at after (ADeclarator left node.declarator) ∷ items) (inl refl);
        by = has_name after left node.declarator name;
      }

  -- what declares a name declares it by a declarator
  declarator_of : {env : Env} {node : Node} {n : NameDeclared} → DeclaresName env node n → HasItsDeclarator env node n
  declarator_of {env = env} (in_declaration {scope = scope} {node = node} {env' = e} {d = d} {named = named} {is = declared} is name found type) =
      record { named = named; has = of_declaration scope env node is name; number = number_declared scope (specifiers_of env node) e d named declared name found; spot = refl }
  declarator_of {env = env} (by_definition {node = node} {named = named} {is = declared} name found type) =
      record { named = named; has = of_definition env node name; number = number_defined env node named declared name found; spot = refl }

  -- two declarators with one number, in which parts of two nodes end that are none: the nodes are one
  one_chained : {outside env env' p p' : Env} {root node node' : Node} {l l' : Left} {d d' : Declarator} → IsLaid at_end outside root → (kind_of node ≡ kinds.Declarator → ⊥) → (kind_of node' ≡ kinds.Declarator → ⊥) →
      StandsIn at_end outside root env node → IsIn (at p (ADeclarator l d)) (parts at_end env node) → StandsIn at_end outside root env' node' → IsIn (at p' (ADeclarator l' d')) (parts at_end env' node') →
      {e : Env} {left : Left} {i : Declarator} → Chain at_end p l d e left i → {e' : Env} {left' : Left} {i' : Declarator} → Chain at_end p' l' d' e' left' i' → i.ordinal ≡ i'.ordinal → at env node ≡ at env' node'
  one_chained laid_so none none' s among t among' itself itself is = one_above at_end laid_so s _ among t _ among' refl is
  one_chained laid_so none none' s among t among' itself (deeper chain last) is =
      let same = one_above at_end laid_so s _ among (chain_stands at_end (lower at_end t _ among') chain) _ last refl is in absurd (none (ap (λ (p : Placed). kind_of p.node) same))
  one_chained laid_so none none' s among t among' (deeper chain last) itself is =
      let same = one_above at_end laid_so (chain_stands at_end (lower at_end s _ among) chain) _ last t _ among' refl is in absurd (none' (ap (λ (p : Placed). kind_of p.node) (sym same)))
  one_chained laid_so none none' s among t among' (deeper chain last) (deeper chain' last') is =
      let same = one_above at_end laid_so (chain_stands at_end (lower at_end s _ among) chain) _ last (chain_stands at_end (lower at_end t _ among') chain') _ last' refl is in
      one_chained laid_so none none' s among t among' chain chain' (ap (λ (p : Placed). number_of p.node) same)

  -- of the declarators of a declaration two whose names have one number are one
  one_declarator : (scope : Scope) (env : Env) (node : Declare) {e e' : Env} {d d' : InitDeclarator} {named named' : Named} → IsLaid at_end env (ADeclaration scope node) →
      IsDeclaratorOf scope env node e d → (declarator_found d.declarator).name ≡ Some named → IsDeclaratorOf scope env node e' d' → (declarator_found d'.declarator).name ≡ Some named' →
      named.ordinal ≡ named'.ordinal → (λ (a b : Env × InitDeclarator). a ≡ b) (e, d) (e', d')
  one_declarator scope env node {e = e} {e' = e'} {d = d} {d' = d'} (is_laid (laid low high inner)) is name is' name' numbers =
      let told = specifiers_of env node in
      let one = has_name e (declared_left scope told at_end e d) d.declarator name in
      let other = has_name e' (declared_left scope told at_end e' d') d'.declarator name' in
      one_among scope told is is' (behind_parts (specifiers_parts (is_alone node.declarators) env node.specifiers) inner).2
      (chain_stands at_end here one.chain) (chain_stands at_end here other.chain) (one.number ∙ numbers ∙ sym other.number)

  -- one node declares one name with a number
  one_declared : {env : Env} {node : Node} {n n' : NameDeclared} → IsLaid at_end env node → DeclaresName env node n → DeclaresName env node n' → n.is.ordinal ≡ n'.is.ordinal → n ≡ n'
  one_declared {env = env} laid_so (in_declaration {scope = scope} {node = node} {env' = e} {d = d} {named = named} {is = declared} is name found type)
      (in_declaration {env' = e'} {d = d'} {named = named'} {is = declared'} {t = t'} is' name' found' type') numbers =
      let told = specifiers_of env node in
      let number = number_declared scope told e d named declared name found in
      let number' = number_declared scope told e' d' named' declared' name' found' in
      let same = one_declarator scope env node laid_so is name is' name' (number ∙ numbers ∙ sym number') in
      let a : DeclaredBy scope told e d _ = record { named = named; name = name; found = found; type = type; spot = refl } in
      let b : DeclaredBy scope told e' d' _ = record { named = named'; name = name'; found = found'; type = type'; spot = refl } in
      declared_once scope told e d _ _ a (subst (λ (x : Env × InitDeclarator). DeclaredBy scope told x.0 x.1 (record { is = declared'; spot = named'.spot; type = t' })) (sym same) b)
  one_declared {env = env} laid_so (by_definition {node = node} {named = named} name found type) (by_definition {named = named'} name' found' type') numbers =
      defined_once env node _ _ (record { named = named; name = name; found = found; type = type; spot = refl }) (record { named = named'; name = name'; found = found'; type = type'; spot = refl })

  -- a declarator of a declaration has the type of the name that the declaration declares with its number
  type_there : (scope : Scope) (env : Env) (node : Declare) {e : Env} {d : InitDeclarator} {named : Named} {n : NameDeclared} → IsLaid at_end env (ADeclaration scope node) →
      IsDeclaratorOf scope env node e d → (declarator_found d.declarator).name ≡ Some named → DeclaresName env (ADeclaration scope node) n → named.ordinal ≡ n.is.ordinal →
      type_declared scope (specifiers_of env node) e d ≡ Some n.type
  type_there scope env node laid_so is name (in_declaration {env' = e'} {d = d'} {named = named'} {is = declared'} {t = t'} is' name' found' type') numbers =
      let told = specifiers_of env node in
      let number = number_declared scope told e' d' named' declared' name' found' in
      let same = one_declarator scope env node laid_so is name is' name' (numbers ∙ sym number) in
      subst (λ (x : Env × InitDeclarator). type_declared scope told x.0 x.1 ≡ Some t') (sym same) type'

-- a definition has the type of the name that it declares
type_of_definition : (env : Env) (node : Definition) {n : NameDeclared} → DeclaresName env (ADefinition node) n → defined_type env node ≡ Some n.type
type_of_definition env node (by_definition name found type) = type

-- two nodes of a source, each with a declarator, whose names have one number: the nodes are one
one_node : (externs : List Name) (before unit : Unit) → unit ≡ numbered before → {env env' : Env} {node node' : Node} {named named' : Named} → IsNode externs unit env node →
    HasDeclarator (at_end externs unit) env node named → IsNode externs unit env' node' → HasDeclarator (at_end externs unit) env' node' named' → named.ordinal ≡ named'.ordinal →
    at env node ≡ at env' node'
one_node externs before unit is {env' = env'} {node' = node'} (node_of p ip s) a (node_of q iq t) b numbers =
    let end = at_end externs unit in
    let same_number = a.by.number ∙ numbers ∙ sym b.by.number in
    let below = chain_stands end (lower end s _ a.among) a.by.chain in
    let below' = chain_stands end (lower end t _ b.among) b.by.chain in
    let external = same_part end (externals_laid externs before unit is) p ip below q iq below' same_number in
    let t' = subst (λ (p : Placed). StandsIn end p.env p.node env' node') (sym external.0) t in
    one_chained end external.1 a.none b.none s a.among t' b.among a.by.chain b.by.chain same_number

-- ---- the laws

pub names_are_those_of_declarators : NamesAreThoseOfDeclarators
names_are_those_of_declarators externs unit env node n declares =
    let end = at_end externs unit in
    let a = declarator_of end declares in
    let by = a.has.by in
    (by.at_env, by.left_there, by.inner, chain_stands end (lower end here _ a.has.among) by.chain, by.number ∙ a.number, by.spot ∙ a.spot)

pub names_are_told_apart : NamesAreToldApart
names_are_told_apart externs before unit is env env' node node' n n' stands declares stands' declares' numbers =
    let end = at_end externs unit in
    let a = declarator_of end declares in
    let b = declarator_of end declares' in
    let same = one_node externs before unit is stands a.has stands' b.has (a.number ∙ numbers ∙ sym b.number) in
    let name = one_declared end (node_laid externs before unit is env node stands) declares (subst (λ (p : Placed). DeclaresName p.env p.node n') (sym same) declares') numbers in
    (ap (λ p. p.env) same, ap (λ p. p.node) same, name)

pub declared_names_have_types : DeclaredNamesHaveTypes
declared_names_have_types externs before unit is scope env node e d named env' node' n stands among name stands' declares numbers =
    let end = at_end externs unit in
    let b = declarator_of end declares in
    let same = one_node externs before unit is stands (of_declaration end scope env node among name) stands' b.has (numbers ∙ sym b.number) in
    let there = subst (λ (p : Placed). DeclaresName p.env p.node n) (sym same) declares in
    type_there end scope env node (node_laid externs before unit is env (ADeclaration scope node) stands) among name there numbers

pub defined_names_have_types : DefinedNamesHaveTypes
defined_names_have_types externs before unit is env node named env' node' n stands name stands' declares numbers =
    let end = at_end externs unit in
    let b = declarator_of end declares in
    let same = one_node externs before unit is stands (of_definition end env node name) stands' b.has (numbers ∙ sym b.number) in
    type_of_definition env node (subst (λ (p : Placed). DeclaresName p.env p.node n) (sym same) declares)
