-- The laws of the numbers of nodes in a numbered source.
use Rattle.std.proofs.Common.{◌≡◌, ◌∙◌, ◌+◌, Bool, false, List, refl, sym, ap, subst}
use Rattle.std.proofs.lemmas.Bool.{true≢false}
use Rattle.lk_tree.specs.Numbers.{count, numbered}
use Rattle.lk_tree.specs.declared.declaration.Entry.{Entry}
use Rattle.lk_tree.specs.declared.declaration.Init.TheOpen.{Init-F}
use Rattle.lk_tree.specs.declared.declaration.Init.{Init, out-Init}
use Rattle.lk_tree.specs.declared.declaration.InitList.{InitList}
use Rattle.lk_tree.specs.declared.statement.Unit.{Unit}
use Rattle.lk_typed.specs.Env.{Env, Name}
use Rattle.lk_typed.specs.NodeRules.{init_mark}
use Rattle.lk_typed.specs.Nodes.{Node, AnExternal, ADeclaration, ADefinition, AMember, AnItem, AParameter, ATypeName, ADeclarator, AnInitialiser, AStatement, AnExpression, Placed}
use Rattle.lk_typed.specs.Units.{IsNode, around, at_end, externals}
use Rattle.lk_typed.specs.Units.IsNode.{node_of}
use Rattle.lk_nodes.specs.Kinds.{is_expression, is_numbered_by_its_part, number_of}
use Rattle.lk_nodes.specs.Laws.{NodesAreToldApart, ExpressionsAreToldApart, TypeNamesAreToldApart, DeclaratorsAreToldApart, StatementsAreToldApart, InitialisersAreToldApart, ValuesAreToldApart, ListsAreToldApart, PartsAreOfOneNode, PartsAreToldApart, NumbersRiseInside, PartsHaveGreaterNumbers, ExternalsAreToldApart, NumbersAreBounded}
use Rattle.lk_nodes.proofs.Laid.{InTurn, IsLaid, StandsIn, greater, init_inner_from, inner_from, inner_of, laid_inside, lower, not_less, one, one_above, same_part, within_parts}
use Rattle.lk_nodes.proofs.Statements.{source_lies}

-- the external declarations of a numbered source are laid one behind the other
pub externals_laid : (externs : List Name) (before unit : Unit) → unit ≡ numbered before → InTurn (at_end externs unit) 0 (externals externs unit) (count before)
externals_laid externs before unit is =
    subst (λ unit. InTurn (at_end externs unit) 0 (externals externs unit) (count before)) (sym is)
    (source_lies (at_end externs (numbered before)) before (around externs (numbered before)))

pub nodes_are_told_apart : NodesAreToldApart
nodes_are_told_apart externs before unit is env env' node node' (node_of p ip s) (node_of q iq t) kinds numbers =
    let end = at_end externs unit in
    let same = same_part end (externals_laid externs before unit is) p ip s q iq t numbers in
    let both = one end same.1 s (subst (λ (p : Placed). StandsIn end p.env p.node env' node') (sym same.0) t) kinds numbers in
    (ap (λ p. p.env) both, ap (λ p. p.node) both)

pub expressions_are_told_apart : ExpressionsAreToldApart
expressions_are_told_apart externs before unit is env env' e e' a b numbers =
    let same = nodes_are_told_apart externs before unit is env env' (AnExpression e) (AnExpression e') a b refl numbers in (same.0, cc)

pub type_names_are_told_apart : TypeNamesAreToldApart
type_names_are_told_apart externs before unit is env env' n n' a b numbers =
    let same = nodes_are_told_apart externs before unit is env env' (ATypeName n) (ATypeName n') a b refl numbers in (same.0, cc)

pub declarators_are_told_apart : DeclaratorsAreToldApart
declarators_are_told_apart externs before unit is env env' left left' d d' a b numbers =
    let same = nodes_are_told_apart externs before unit is env env' (ADeclarator left d) (ADeclarator left' d') a b refl numbers in (same.0, cc, cc)

pub statements_are_told_apart : StatementsAreToldApart
statements_are_told_apart externs before unit is env env' around around' s s' a b numbers =
    let same = nodes_are_told_apart externs before unit is env env' (AStatement around s) (AStatement around' s') a b refl numbers in (same.0, cc, cc)

pub initialisers_are_told_apart : InitialisersAreToldApart
initialisers_are_told_apart externs before unit is env env' object object' init init' a b numbers =
    let same = nodes_are_told_apart externs before unit is env env' (AnInitialiser object init) (AnInitialiser object' init') a b refl numbers in (same.0, cc, cc)

pub values_are_told_apart : ValuesAreToldApart
values_are_told_apart externs before unit is env env' object object' init init' e e' a b has has' numbers =
    let number = ap (λ x. (init_mark x).ordinal) has ∙ numbers ∙ sym (ap (λ x. (init_mark x).ordinal) has') in
    let same = initialisers_are_told_apart externs before unit is env env' object object' init init' a b number in
    let value : (λ (a b : Init-F Init Entry InitList). a ≡ b) (Init-F.Expr e) (Init-F.Expr e') = sym has ∙ ap out-Init same.2 ∙ has' in
    (same.0, same.1, cc)

pub lists_are_told_apart : ListsAreToldApart
lists_are_told_apart externs before unit is env env' object object' init init' list list' a b has has' numbers =
    let number = ap (λ x. (init_mark x).ordinal) has ∙ numbers ∙ sym (ap (λ x. (init_mark x).ordinal) has') in
    let same = initialisers_are_told_apart externs before unit is env env' object object' init init' a b number in
    let value : (λ (a b : Init-F Init Entry InitList). a ≡ b) (Init-F.List list) (Init-F.List list') = sym has ∙ ap out-Init same.2 ∙ has' in
    (same.0, same.1, cc)

pub parts_are_of_one_node : PartsAreOfOneNode
parts_are_of_one_node externs before unit is env env' node node' part part' (node_of p ip s) among (node_of q iq t) among' kinds numbers =
    let end = at_end externs unit in
    let external = same_part end (externals_laid externs before unit is) p ip (lower end s part among) q iq (lower end t part' among') numbers in
    let same = one_above end external.1 s part among (subst (λ (p : Placed). StandsIn end p.env p.node env' node') (sym external.0) t) part' among' kinds numbers in
    (ap (λ p. p.env) same, ap (λ p. p.node) same)

pub externals_are_told_apart : ExternalsAreToldApart
externals_are_told_apart externs before unit is env env' node node' one other p s q t numbers =
    (same_part (at_end externs unit) (externals_laid externs before unit is) one p s other q t numbers).0

pub numbers_are_bounded : NumbersAreBounded
numbers_are_bounded externs before unit is env node (node_of p ip s) = (within_parts (at_end externs unit) (externals_laid externs before unit is) p ip s).1

-- each node of a numbered source is laid
pub node_laid : (externs : List Name) (before unit : Unit) → unit ≡ numbered before → (env : Env) (node : Node) → IsNode externs unit env node → IsLaid (at_end externs unit) env node
node_laid externs before unit is env node (node_of p ip s) =
    let end = at_end externs unit in laid_inside end (same_part end (externals_laid externs before unit is) p ip s p ip s refl).1 s

pub numbers_rise_inside : NumbersRiseInside
numbers_rise_inside externs before unit is env env' node node' stands inner = not_less (at_end externs unit) (node_laid externs before unit is env node stands) inner

-- a list has a number of its own
init_by_itself : (x : Init-F Init Entry InitList) (b : Bool) → is_expression x ≡ b → b ≡ false → init_inner_from x ≡ (init_mark x).ordinal + 1
init_by_itself (Init-F.Expr e) b is none = absurd (true≢false (is ∙ none))
init_by_itself (Init-F.List entries) b is none = refl

-- a node that hasn't the number of its part
by_itself : (node : Node) → is_numbered_by_its_part node ≡ false → inner_from node ≡ number_of node + 1
by_itself (AnExternal d) is = absurd (true≢false is)
by_itself (ADeclaration scope node) is = refl
by_itself (ADefinition node) is = refl
by_itself (AMember before m) is = refl
by_itself (AnItem before i) is = refl
by_itself (AParameter lone p) is = refl
by_itself (ATypeName n) is = refl
by_itself (ADeclarator left d) is = refl
by_itself (AnInitialiser object init) is = init_by_itself (out-Init init) (is_expression (out-Init init)) refl is
by_itself (AStatement around s) is = refl
by_itself (AnExpression e) is = refl

pub parts_have_greater_numbers : PartsHaveGreaterNumbers
parts_have_greater_numbers externs before unit is env env' node node' part stands among inner own =
    greater (at_end externs unit) (node_laid externs before unit is env node stands) (by_itself node own) part among inner

pub parts_are_told_apart : PartsAreToldApart
parts_are_told_apart externs before unit is env e e' node n n' part part' stands among inner among' inner' numbers =
    let end = at_end externs unit in (same_part end (inner_of end (node_laid externs before unit is env node stands)).3 part among inner part' among' inner' numbers).0
