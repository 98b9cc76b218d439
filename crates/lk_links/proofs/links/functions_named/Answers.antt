use Rattle.std.proofs.Common.{◌≡◌, ◌<◌, ◌++◌, [], ◌∷◌, All, length, ap, sym, ◌∙◌, subst, arith}
use Rattle.std.proofs.lemmas.List.Elements.{All-append}
use Rattle.std.specs.List.{filter_map}
use Rattle.lk_facts.specs.Facts.{basis_of}
use Rattle.lk_sets.specs.Rows.{Rows, IsSquare, row_of}
use Rattle.lk_sets.proofs.Reading.{has_id-row, left_later}
use Rattle.lk_links.specs.Making.{function_named}
use Rattle.lk_links.proofs.ListLemmas.{given_more, given_none}
use Rattle.lk_links.proofs.SetLemmas.{All-from_has_id, All-has_id, All-one}
use Rattle.lk_links.proofs.links.functions_named.Goals as goal

pub loop-origin-init : goal.loop-origin-init
loop-origin-init c =
    let all = c.args.facts.now.origins.all in
    let is : c.into_iter-origin-iterator.result ≡ row_of all c.args.target = (cc) in
    let all_is : c.all.result.now ≡ all = (cc) in
    let square = subst IsSquare all_is c.row-origin-items.ensures.square in
    record {
      named = ap (λ l. l ++ filter_map (function_named (basis_of c.args.facts.now)) c.into_iter-origin-iterator.result) c.new-ids.ensures.items ∙ ap (filter_map (function_named (basis_of c.args.facts.now))) is;
      origins = All-from_has_id (λ o. o < length c.args.facts.now.labels.entries) _ (λ o there. subst (λ n. o < n) c.origins.ensures.agree.origins (square.within c.args.target o (sym (has_id-row all c.args.target o _ is) ∙ there)).1);
      in_range = subst (All (λ g. g < length c.args.facts.now.program.functions)) (sym c.new-ids.ensures.items) (λ k d within. absurd (omega arith));
    }

pub loop-origin-preserved-in-Continue-1 : goal.loop-origin-preserved-in-Continue-1
loop-origin-preserved-in-Continue-1 c = record {
  named =
      given_more (function_named (basis_of c.args.facts.now)) c.loop-origin.origin-iterator c.next.new.self c.loop-origin.ids.items _ c.in-Some.origin c.in-Some.ensures.steps c.loop-origin.invariant.named
      c.push.new.self.items c.in-Some-function_named.function c.in_ok-push.ensures.items (sym c.in-Some-function_named.ensures.value);
  origins = All-from_has_id (λ o. o < length c.args.facts.now.labels.entries) _ (λ o there. All-has_id (λ n. n < length c.args.facts.now.labels.entries) _ o c.loop-origin.invariant.origins (left_later c.in-Some.ensures.steps o there));
  in_range = subst (All (λ g. g < length c.args.facts.now.program.functions)) (sym c.in_ok-push.ensures.items) (All-append (λ g. g < length c.args.facts.now.program.functions) _ _ c.loop-origin.invariant.in_range (All-one (λ g. g < length c.args.facts.now.program.functions) c.in-Some-function_named.function c.in-Some-function_named.ensures.in_range));
}

pub loop-origin-preserved : goal.loop-origin-preserved
loop-origin-preserved c = record {
  named =
      given_none (function_named (basis_of c.args.facts.now)) c.loop-origin.origin-iterator c.next.new.self c.loop-origin.ids.items _ c.in-Some.origin c.in-Some.ensures.steps c.loop-origin.invariant.named
      (sym c.in_default.ensures.value);
  origins = All-from_has_id (λ o. o < length c.args.facts.now.labels.entries) _ (λ o there. All-has_id (λ n. n < length c.args.facts.now.labels.entries) _ o c.loop-origin.invariant.origins (left_later c.in-Some.ensures.steps o there));
  in_range = c.loop-origin.invariant.in_range;
}
