use Rattle.lk_top.proofs.ordering.linear_places.Goals as goal

pub linear-requires : goal.linear-requires
linear-requires c = record { many = c.in_ok-many.ensures.members; nodes = c.requires }

pub returns : goal.returns
returns c = c.in_ok-places.ensures.members
