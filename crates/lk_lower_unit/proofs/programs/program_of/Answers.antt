use Rattle.std.proofs.Common.{◌≡◌, ◌∙◌, ap, rules, subst, sym}
use Rattle.lk_lower_unit.proofs.AllLowered.{lowered_by}
use Rattle.lk_lower_unit.proofs.Living.{IsKept, kept_by}
use Rattle.lk_lower_unit.proofs.PlaceNodes.{place_nodes}
use Rattle.lk_lower_unit.specs.Made.{HasVoidParts, IsProgramOf}
use Rattle.lk_lower_unit.specs.Placed.{numbers_of}
use Rattle.lk_lower_unit.proofs.programs.program_of.Goals as goal

pub returns-clause-nodes : goal.returns-clause-nodes
returns-clause-nodes c =
    place_nodes c.in_ok-points.points c.put_together.result c.in_ok-rest.rest.types c.in_ok-rest.rest.places.places c.in_ok-points.ensures.is c.put_together.ensures.types c.put_together.ensures.places
    c.in_ok-rest.ensures.nodes

pub returns-clause-made : goal.returns-clause-made
returns-clause-made c =
    let put = c.put_together.ensures in
    subst (IsProgramOf c.args.given.now c.args.types c.args.main c.args.count c.args.slots.items c.args.roots.items) (sym c.in_ok-points.ensures.is)
    (record {
      code = c.in_ok-code.code;
      is_code = c.in_ok-code.ensures;
      rest = c.in_ok-rest.rest;
      is_rest = c.in_ok-rest.ensures.rest;
      points_ = put.points;
      functions_ = put.functions;
      roots_ = put.roots;
      types_ = put.types;
      places_ = put.places;
      locations_ = put.locations;
      initials_ = put.initials;
      main_ = put.main;
    })

pub returns-clause-lowered : goal.returns-clause-lowered
returns-clause-lowered c =
    let given = c.args.given.now in
    let program = c.in_ok-points.points in
    let is = c.in_ok-points.ensures.is in
    let put = c.put_together.ensures in
    let rest = c.in_ok-rest.ensures.rest in
    let points : c.deref.result.now ≡ c.in_ok-code.code.points.items = search rules in
    let kept : IsKept program = kept_by program c.put_together.result given c.args.types c.args.slots.items c.args.count c.in_ok-code.code c.in_ok-rest.rest.types is c.in_ok-points.ensures.in_range c.in_ok-code.ensures
    (subst (λ ps. HasVoidParts c.args.types ps c.in_ok-rest.rest.types) points c.in_ok-rest.ensures.parts) put.points put.functions put.types put.sites in
    let places = rest.places_ given.whole.now (numbers_of given c.args.types) program (ap (λ p. p.types) is ∙ put.types) (ap (λ p. p.roots) is ∙ put.roots ∙ rest.roots_) (ap (λ p. p.places) is ∙ put.places) (ap (λ p. p.locations) is ∙ put.locations) in
    lowered_by given.whole.now (numbers_of given c.args.types) program kept c.in_ok-points.ensures.tested places
