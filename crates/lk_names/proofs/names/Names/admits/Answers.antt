use Rattle.lk_names.proofs.names.Names.admits.Goals as goal

pub returns-in-DefinesStruct : goal.returns-in-DefinesStruct
returns-in-DefinesStruct c table rest = rw (c.in-Struct.is, c.in-DefinesStruct.is) (c.is_open.ensures table)
