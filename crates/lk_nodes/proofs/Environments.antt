-- The environments of the nodes of a source: the names from outside, and what is known of structs.
use Rattle.std.proofs.Common.{◌≡◌, ◌∙◌, inl, inr, List, [], ◌∷◌, None, map, refl, sym, ap, subst}
use Rattle.lk_tree.specs.declared.statement.Decl.{Decl}
use Rattle.lk_tree.specs.declared.statement.Decl.TheVariants as decl
use Rattle.lk_tree.specs.declared.statement.Unit.{Unit}
use Rattle.lk_typed.specs.DeclarationRules.{AtFile}
use Rattle.lk_typed.specs.Env.{Env, Declared, Name, Members, Outside, extend}
use Rattle.lk_typed.specs.NodeParts.{behind_all, external_adds, externals_in_turn, parts}
use Rattle.lk_typed.specs.Nodes.{Node, AnExternal, ADeclaration, ADefinition, AMember, AnItem, AParameter, ATypeName, ADeclarator, AnInitialiser, AStatement, AnExpression, Placed, at}
use Rattle.lk_typed.specs.Library.{library, predeclared_names, predeclared_types}
use Rattle.lk_typed.specs.Redeclared.{typedef_type}
use Rattle.lk_typed.specs.Sizes.{are_known}
use Rattle.lk_typed.specs.Stands.{IsIn}
use Rattle.lk_typed.specs.Stands.Stands.{here, inside}
use Rattle.lk_typed.specs.Units.{IsNode, around, at_end, externals}
use Rattle.lk_typed.specs.Units.IsNode.{node_of}
use Rattle.lk_nodes.specs.Laws.{KnownStructsStay, OutsideStays}
use Rattle.lk_nodes.proofs.Adding.{AllFit, Fits, NodeTells, Sound, behind_node, extended, fit_earlier, none, part}
use Rattle.lk_nodes.proofs.Bodies.{declaration_tells, definition_tells, init_tells, stmt_tells}
use Rattle.lk_nodes.proofs.Laid.{StandsIn}
use Rattle.lk_nodes.proofs.Structs.{Keeps, MayHaveElements, NamesHaveElements, keeps_same, keeps_then, known_behind, known_kept, names_both, stays_same, stays_then}
use Rattle.lk_nodes.proofs.Trees.{declarator_tells, expr_tells, item_tells, member_tells, parameter_tells, type_name_tells}

module _ (outside : Outside) (at_end : Env) where
  -- an external declaration
  external_tells : (d : Decl) (env : Env) → NodeTells outside at_end env (AnExternal d)
  external_tells (decl.Function node) env sound = part outside at_end env (ADefinition node) sound (definition_tells outside at_end node env)
  external_tells (decl.Declare node) env sound = part outside at_end env (ADeclaration AtFile node) sound (declaration_tells outside at_end node AtFile env)
  external_tells (decl.Empty node) env sound = none outside env.structs

  -- each node tells its additions
  pub node_tells : (env : Env) (node : Node) → NodeTells outside at_end env node
  node_tells env (AnExternal d) = external_tells d env
  node_tells env (ADeclaration scope node) = declaration_tells outside at_end node scope env
  node_tells env (ADefinition node) = definition_tells outside at_end node env
  node_tells env (AMember before m) = (member_tells outside at_end m).tells env before
  node_tells env (AnItem before i) = item_tells outside at_end i env before
  node_tells env (AParameter lone p) = parameter_tells outside at_end p env lone
  node_tells env (ATypeName n) = type_name_tells outside at_end n env
  node_tells env (ADeclarator left d) = (declarator_tells outside at_end d).tells env left
  node_tells env (AnInitialiser object init) = init_tells outside at_end init env object
  node_tells env (AStatement around s) = stmt_tells outside at_end s env around
  node_tells env (AnExpression e) = expr_tells outside at_end e env

  -- one of nodes that all fit
  pub one_fits : (ps : List Placed) (before after : List Members) (p : Placed) → AllFit outside before after ps → IsIn p ps → Fits outside before after p
  one_fits [] before after p all is = absurd is
  one_fits (q ∷ qs) before after p all (inl same) = subst (Fits outside before after) (sym same) all.0
  one_fits (q ∷ qs) before after p all (inr is) = one_fits qs before after p all.1 is

  -- a part of a node
  pub part_fits : (env : Env) (node : Node) → Sound outside env → (p : Placed) → IsIn p (parts at_end env node) → Fits outside env.structs (behind_node env node) p
  part_fits env node sound p is = one_fits (parts at_end env node) env.structs (behind_node env node) p (node_tells env node sound).parts is

  -- what is known before a node is known where another one stands in it, and what is known behind that one is known behind the node
  pub inside_fits : {env env' : Env} {node node' : Node} → Sound outside env → StandsIn at_end env node env' node' → Fits outside env.structs (behind_node env node) (at env' node')
  inside_fits {env} sound here = record { sound = sound; earlier = stays_same env.structs; stays = stays_same _ }
  inside_fits {env} {env'} {node} {node'} sound (inside p is stands) =
      let fits = part_fits env node sound p is in
      let deeper = inside_fits fits.sound stands in
      record {
        sound = deeper.sound;
        earlier = stays_then env.structs p.env.structs env'.structs fits.earlier deeper.earlier;
        stays = stays_then _ (behind_node p.env p.node) _ deeper.stays fits.stays;
      }

  -- external declarations keep structs
  externals_keep : (env : Env) (ds : List Decl) → Sound outside env → Keeps env.structs (behind_all env ds).structs
  externals_keep env [] sound = keeps_same env.structs
  externals_keep env (d ∷ ds) sound =
      let one = external_tells d env sound in
      let after = extend env (external_adds env d) in
      keeps_then env.structs after.structs (behind_all after ds).structs one.kept.kept (externals_keep after ds (extended outside env sound one.kept))

  -- what is known behind each is known behind all
  externals_fit : (env : Env) (ds : List Decl) → Sound outside env → AllFit outside env.structs (behind_all env ds).structs (externals_in_turn env ds)
  externals_fit env [] sound = tt
  externals_fit env (d ∷ ds) sound =
      let after = extend env (external_adds env d) in
      let one = external_tells d env sound in
      let stays = extended outside env sound one.kept in (
        record { sound = sound; earlier = stays_same env.structs; stays = known_kept after.structs (behind_all after ds).structs (externals_keep after ds stays) },
        fit_earlier outside (externals_in_turn after ds) env.structs after.structs _ (known_behind one.kept) (externals_fit after ds stays),
      )

-- functions are no typedefs
functions_elements : {A : Type 0} (named : A → Declared) → ((a : A) → typedef_type (named a).meaning ≡ None) → (xs : List A) → NamesHaveElements [] (map named xs)
functions_elements named are [] = tt
functions_elements named are (x ∷ xs) = (subst (MayHaveElements []) (sym (are x)) tt, functions_elements named are xs)

-- what is predeclared names no array
predeclared_elements : NamesHaveElements [] predeclared_names
unfolding predeclared_names
predeclared_elements = names_both [] predeclared_types _ (tt, (tt, (tt, (tt, (tt, (tt, (tt, (tt, (tt, tt))))))))) (functions_elements _ (λ f. refl) library)

-- the environment round a source
around_sound : (externs : List Name) (unit : Unit) → Sound (around externs unit).outside (around externs unit)
around_sound externs unit = (refl, tt, λ s. tt, predeclared_elements)

-- an external declaration
pub external_fits : (externs : List Name) (unit : Unit) (p : Placed) → IsIn p (externals externs unit) → Fits (around externs unit).outside [] (at_end externs unit).structs p
external_fits externs unit p is =
    let outside = (around externs unit).outside in
    let end = at_end externs unit in
    one_fits outside end (externals externs unit) [] end.structs p (externals_fit outside end (around externs unit) unit.externals (around_sound externs unit)) is

-- each node of a source: its names from outside, and what is known of structs behind it is known at the end
pub node_fits : (externs : List Name) (unit : Unit) (env : Env) (node : Node) → IsNode externs unit env node → Fits (around externs unit).outside [] (at_end externs unit).structs (at env node)
node_fits externs unit env node (node_of p is stands) =
    let fits = external_fits externs unit p is in
    let deeper = inside_fits (around externs unit).outside (at_end externs unit) fits.sound stands in
    record {
      sound = deeper.sound;
      earlier = stays_then [] p.env.structs env.structs fits.earlier deeper.earlier;
      stays = stays_then _ (behind_node p.env p.node) _ deeper.stays fits.stays;
    }

pub outside_stays : OutsideStays
outside_stays externs unit env node stands = (node_fits externs unit env node stands).sound.0

pub known_structs_stay : KnownStructsStay
known_structs_stay externs unit env e s fields stands known = (node_fits externs unit env (AnExpression e) stands).stays s (ap are_known known) ∙ known
