-- The laws of matched paths, for the edges of a list and a flow that is closed.
use Rattle.std.proofs.Common.{inl, inr, refl}
use Rattle.lk_facts.proofs.PathClosing.{level_closed, pass_closed, pass_least, all_least, inner_least, cross_least}
use Rattle.lk_facts.proofs.WalkLaws.{up_and_down_closed, over_closed}
use Rattle.lk_facts.specs.declared.edge.Mark.TheVariants.{Enter, Leave}
use Rattle.lk_laws.specs.PathLaws.{RiseAndFallAreTheirRules, FlowIsLeast, UpAndDown, OverCalls, OverValues}

pub rises_and_falls : RiseAndFallAreTheirRules
rises_and_falls es global = (record { rise = pass_closed Leave; fall = pass_closed Enter }, λ table. record { rise = pass_least Leave _; fall = pass_least Enter _ })

pub flow_least : FlowIsLeast
flow_least es labels flow closed = record {
  all = all_least _ _ _ _ level_closed closed;
  inner = inner_least _ _ _ _ level_closed closed;
  cross = cross_least _ _ _ _ level_closed closed;
}

pub up_down : UpAndDown
up_down es labels flow closed o b c d h walk = up_and_down_closed _ _ _ _ _ _ _ level_closed closed o c h b d walk

pub over_call : OverCalls
over_call es labels flow closed o b i c d h walk =
    elim (over_closed _ _ _ _ _ _ _ level_closed closed o c h i b d walk) [ inl inner ↦ (o, inl inner, inl refl) | inr found ↦ (found.0, inr found.1, inr found.3) ]

pub over_value : OverValues
over_value es labels flow closed o b i c d h walk =
    elim (over_closed _ _ _ _ _ _ _ level_closed closed o c h i b d walk) [ inl inner ↦ inl inner | inr found ↦ inr (found.0, found.1, found.2) ]
