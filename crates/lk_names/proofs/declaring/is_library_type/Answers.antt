use Rattle.lk_names.proofs.declaring.is_library_type.Goals as goal

pub returns : goal.returns
returns c = c.is_among.ensures
