use Rattle.std.proofs.Common.{◌++◌, ◌∷◌, [], List, sym, subst}
use Rattle.std.specs.List.{AllZip}
use Rattle.lk_typed.specs.declared.unit.TypedUnit.{TypedUnit}
use Rattle.lk_sources.specs.declared.checking.AcceptedSource.{AcceptedSource}
use Rattle.lk_program.specs.Trees.{TypesSource}
use Rattle.lk_program.proofs.trees.typed_units.Goals as goal

-- one more source comes to one more typed tree
zip_push : (xs : List AcceptedSource) (ys : List TypedUnit) (x : AcceptedSource) (y : TypedUnit) → AllZip TypesSource xs ys → TypesSource x y → AllZip TypesSource (xs ++ x ∷ []) (ys ++ y ∷ [])
zip_push [] [] x y zip types = (types, zip)
zip_push [] (b ∷ ys) x y zip types = absurd zip
zip_push (a ∷ xs) [] x y zip types = absurd zip
zip_push (a ∷ xs) (b ∷ ys) x y zip types = (zip.0, zip_push xs ys x y zip.1 types)

pub loop-source-preserved : goal.loop-source-preserved
loop-source-preserved c =
    let xs = c.loop-source.yielded in
    subst (AllZip TypesSource (xs ++ c.in-Some.source ∷ [])) (sym c.in_ok-push.ensures.items)
    (zip_push xs c.loop-source.units.items c.in-Some.source c.in_ok-unit.unit c.loop-source.invariant c.in_ok-unit.ensures)
