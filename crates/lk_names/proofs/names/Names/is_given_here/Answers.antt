use Rattle.std.proofs.Common.{◌≡◌, ◌∙◌, ◌-◌, ap, arith, drop, false, map, length, suc, sym, subst, true}
use Rattle.std.specs.List.{list_any}
use Rattle.std.specs.Option.{option_map}
use Rattle.std.proofs.lemmas.List.{length-map}
use Rattle.std.proofs.lemmas.Option.{slice_get-map}
use Rattle.lk_typed.specs.Names.{declared_in}
use Rattle.lk_typed.specs.Redeclared.{gives_name, is_given_here}
use Rattle.lk_names.specs.InScope.{env_in}
use Rattle.lk_names.proofs.Givens.{any_at, any_sooner, none_at, none_behind_all, none_later}
use Rattle.lk_names.proofs.names.Names.is_given_here.Goals as goal

pub loop-place-init : goal.loop-place-init
loop-place-init c = (
  omega arith,
  λ table. none_behind_all (gives_name c.args.name.now) (map (declared_in table) c.self.inside.declared) _ (omega (arith, length-map c.self.inside.declared (declared_in table))),
)

pub get-requires : goal.get-requires
get-requires c = let within = c.loop-place.invariant.0 in omega (arith, within, c.loop-place-test.true)

pub returns-then-gives_name : goal.returns-then-gives_name
returns-then-gives_name c table rest =
    let items = map (declared_in table) c.self.inside.declared in
    let at = slice_get-map (declared_in table) c.self.inside.declared (c.loop-place.place - 1) ∙ ap (option_map (declared_in table)) c.get.ensures in
    let passes = subst (λ d. gives_name c.args.name.now (declared_in table d) ≡ true) c.behind-self.view_is (sym (c.gives_name.ensures table) ∙ c.if-gives_name.true) in
    subst (λ s. true ≡ is_given_here (env_in table rest s) c.args.name.now) c.self.view_is
    (sym (any_sooner (gives_name c.args.name.now) items c.self.inside.base (c.loop-place.place - 1) (omega (arith, c.loop-place-test.true)) (any_at (gives_name c.args.name.now) items (c.loop-place.place - 1) _ at passes)))

pub loop-place-preserved : goal.loop-place-preserved
loop-place-preserved c = (
  (let within = c.loop-place.invariant.0 in omega (arith, within)),
  λ table.
      let items = map (declared_in table) c.self.inside.declared in
      let at = slice_get-map (declared_in table) c.self.inside.declared (c.loop-place.place - 1) ∙ ap (option_map (declared_in table)) c.get.ensures in
      let fails = subst (λ d. gives_name c.args.name.now (declared_in table d) ≡ false) c.behind-self.view_is (sym (c.gives_name.ensures table) ∙ c.if-gives_name.false) in
      let one : c.loop-place.place ≡ suc (c.loop-place.place - 1) = omega (arith, c.loop-place-test.true) in
      none_at (gives_name c.args.name.now) items (c.loop-place.place - 1) _ at fails
      (subst (λ n. list_any (gives_name c.args.name.now) (drop n items) ≡ false) one (c.loop-place.invariant.1 table)),
)

pub returns : goal.returns
returns c table rest =
    let items = map (declared_in table) c.self.inside.declared in
    subst (λ s. false ≡ is_given_here (env_in table rest s) c.args.name.now) c.self.view_is
    (sym (none_later (gives_name c.args.name.now) items c.self.inside.base c.loop-place.place (omega (arith, c.loop-place-test.false)) (c.loop-place.invariant.1 table)))
