-- What an initialiser adds, by its form.
use Rattle.std.proofs.Common.{◌≡◌, ◌∙◌, List, [], ◌∷◌, map, refl, sym, ap}
use Rattle.lk_tree.specs.declared.declaration.Entry.{Entry}
use Rattle.lk_tree.specs.declared.declaration.Init.{Init, out-Init, out-roll-Init}
use Rattle.lk_tree.specs.declared.declaration.Init.TheFolds.{fold-Entry, fold-InitList, fold_out-Entry, fold_out-Init, fold_out-InitList, map-Init}
use Rattle.lk_tree.specs.declared.declaration.Init.TheOpen.{Init-F}
use Rattle.lk_tree.specs.declared.declaration.Init.TheVariants as init
use Rattle.lk_tree.specs.declared.declaration.InitList.{InitList, out-InitList}
use Rattle.lk_tree.specs.declared.expression.Expr.{Expr}
use Rattle.lk_typed.specs.Expressions.{expr_adds}
use Rattle.lk_typed.specs.Initialisers.{Adder, in_turn, init_adds, of_entry, of_init, of_list}
use Rattle.lk_check_unit.specs.Initialising.{entry_adds}

pub an_expression : (i : Init) (e : Expr) → i ≡ init.Expr e → out-Init i ≡ Init-F.Expr e
an_expression i e is = ap out-Init (is ∙ sym (init.rolls-Expr e)) ∙ out-roll-Init (Init-F.Expr e)

pub a_list : (i : Init) (list : InitList) → i ≡ init.List list → out-Init i ≡ Init-F.List list
a_list i list is = ap out-Init (is ∙ sym (init.rolls-List list)) ∙ out-roll-Init (Init-F.List list)

unfoldable list_folded : InitList → Adder
list_folded = fold-InitList Adder Adder Adder of_init of_entry of_list

unfoldable entry_folded : Entry → Adder
entry_folded = fold-Entry Adder Adder Adder of_init of_entry of_list

one_entry : (e : Entry) → entry_folded e ≡ entry_adds e
unfolding entry_folded init_adds list_folded
one_entry e = fold_out-Entry Adder Adder Adder of_init of_entry of_list e

all_entries : (es : List Entry) → map entry_folded es ≡ map entry_adds es
all_entries [] = refl
all_entries (e ∷ es) = ap (λ x. x ∷ map entry_folded es) (one_entry e) ∙ ap (λ xs. entry_adds e ∷ xs) (all_entries es)

list_by : (list : InitList) → list_folded list ≡ in_turn (map entry_folded (out-InitList list).entries)
unfolding list_folded entry_folded init_adds
list_by list = fold_out-InitList Adder Adder Adder of_init of_entry of_list list

by_form : (i : Init) → init_adds i ≡ of_init (map-Init Init Entry InitList Adder Adder Adder init_adds entry_folded list_folded (out-Init i))
unfolding init_adds entry_folded list_folded
by_form i = fold_out-Init Adder Adder Adder of_init of_entry of_list i

pub adds_of_expression : (i : Init) (e : Expr) → out-Init i ≡ Init-F.Expr e → init_adds i ≡ expr_adds e
adds_of_expression i e is = by_form i ∙ ap (λ f. of_init (map-Init Init Entry InitList Adder Adder Adder init_adds entry_folded list_folded f)) is

pub adds_of_list : (i : Init) (list : InitList) → out-Init i ≡ Init-F.List list → init_adds i ≡ in_turn (map entry_adds (out-InitList list).entries)
adds_of_list i list is =
    by_form i ∙ (ap (λ f. of_init (map-Init Init Entry InitList Adder Adder Adder init_adds entry_folded list_folded f)) is ∙ (list_by list ∙ ap in_turn (all_entries (out-InitList list).entries)))
