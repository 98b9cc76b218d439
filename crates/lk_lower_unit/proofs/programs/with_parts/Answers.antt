use Rattle.lk_lower_unit.proofs.programs.with_parts.Goals as goal

pub returns-then-are_parts : goal.returns-then-are_parts
returns-then-are_parts c = (c.in_ok-parts.parts.items, c.with_parts.ensures, c.in_ok-parts.ensures)
