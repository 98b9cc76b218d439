use Rattle.std.proofs.Common.{◌≡◌, ◌∙◌, arith, subst, sym}
use Rattle.std.proofs.lemmas.Bool.{false≢true}
use Rattle.std.proofs.lemmas.Option.{same_Some, slice_get_within}
use borrow.Author.Count.{below_none, below_more}
use Rattle.lk_facts.specs.declared.root.Root.{Root}
use Rattle.lk_facts.specs.declared.root.RootKind.TheVariants.{Args}
use Rattle.lk_point_types.proofs.Found.{never}
use Rattle.lk_point_types.proofs.WholeLemmas.{IsNotOfStrings}
use Rattle.lk_point_types.proofs.roots.has_strings.Goals as goal

pub loop-r-init : goal.loop-r-init
loop-r-init c = below_none (IsNotOfStrings c.args.points.now)

pub loop-r-preserved : goal.loop-r-preserved
loop-r-preserved c =
    below_more (IsNotOfStrings c.args.points.now) c.loop-r.r c.loop-r.invariant
    (λ root at kind.
    false≢true (sym c.if-is_of_strings.false ∙ c.is_of_strings.ensures.1 (subst (λ (x : Root). x.kind ≡ Args) (sym (same_Some _ _ (sym c.root.ensures.value ∙ at))) kind)))

pub returns : goal.returns
returns c =
    never (λ h.
    let within = slice_get_within c.args.points.now.roots h.0 h.1 h.2 in
    c.loop-r.invariant h.0 (omega (arith, within, c.roots-r-end.ensures, c.loop-r-test.false)) h.1 h.2 h.3)
