use Rattle.std.proofs.Common.{refl, ap}
use Rattle.lk_typed.specs.Env.{Declared}
use Rattle.lk_found.specs.Named.{name_in}
use Rattle.lk_check_unit.proofs.Naming.{further_puts, further_same, further_then, known_unchanged, name_declared, pending_listed, puts_known, same_known, same_sound, type_unchanged, waits_later}
use Rattle.lk_check_unit.proofs.declared.declare_name.Goals as goal

pub keep_redeclared-requires-clause-name : goal.keep_redeclared-requires-clause-name
keep_redeclared-requires-clause-name c = ap (λ (d : Declared). d.name) c.in_ok-declared.ensures.value

pub keep_type_codes-requires-clause-sound : goal.keep_type_codes-requires-clause-sound
keep_type_codes-requires-clause-sound c = (same_sound c.type_with_old.new.checker c.keep_redeclared.new.checker c.in_ok-keep_redeclared.ensures.same c.in_ok-ty.ensures.puts.grows.sound)

pub keep_type_codes-requires-clause-known : goal.keep_type_codes-requires-clause-known
keep_type_codes-requires-clause-known c =
    same_known c.type_with_old.new.checker c.keep_redeclared.new.checker c.in_ok-keep_redeclared.ensures.same c.args.t.now (puts_known c.args.checker.now c.type_with_old.new.checker c.requires.sound c.in_ok-ty.ensures.puts c.args.t.now c.requires.known)

pub keep_size-requires : goal.keep_size-requires
keep_size-requires c = (same_known c.keep_redeclared.new.checker c.keep_type_codes.new.checker c.in_ok-pending.ensures.same c.in_ok-ty.ty (same_known c.type_with_old.new.checker c.keep_redeclared.new.checker c.in_ok-keep_redeclared.ensures.same c.in_ok-ty.ty c.in_ok-ty.ensures.known))

pub sized-requires-clause-sound : goal.sized-requires-clause-sound
sized-requires-clause-sound c = (same_sound c.keep_type_codes.new.checker c.keep_size.new.checker c.in_ok-keep_size.ensures.same (same_sound c.keep_redeclared.new.checker c.keep_type_codes.new.checker c.in_ok-pending.ensures.same (same_sound c.type_with_old.new.checker c.keep_redeclared.new.checker c.in_ok-keep_redeclared.ensures.same c.in_ok-ty.ensures.puts.grows.sound)))

pub sized-requires-clause-known : goal.sized-requires-clause-known
sized-requires-clause-known c = same_known c.keep_type_codes.new.checker c.keep_size.new.checker c.in_ok-keep_size.ensures.same c.in_ok-ty.ty (same_known c.keep_redeclared.new.checker c.keep_type_codes.new.checker c.in_ok-pending.ensures.same c.in_ok-ty.ty (same_known c.type_with_old.new.checker c.keep_redeclared.new.checker c.in_ok-keep_redeclared.ensures.same c.in_ok-ty.ty c.in_ok-ty.ensures.known))

pub returns-clause-further : goal.returns-clause-further
returns-clause-further c =
    further_then c.args.checker.now c.type_with_old.new.checker c.put_name.new.checker (further_puts c.args.checker.now c.type_with_old.new.checker c.in_ok-ty.ensures.puts)
    (further_then c.type_with_old.new.checker c.keep_redeclared.new.checker c.put_name.new.checker (further_same c.type_with_old.new.checker c.keep_redeclared.new.checker c.in_ok-ty.ensures.puts.grows.sound c.in_ok-keep_redeclared.ensures.same)
    (further_then c.keep_redeclared.new.checker c.keep_type_codes.new.checker c.put_name.new.checker (further_same c.keep_redeclared.new.checker c.keep_type_codes.new.checker (same_sound c.type_with_old.new.checker c.keep_redeclared.new.checker c.in_ok-keep_redeclared.ensures.same c.in_ok-ty.ensures.puts.grows.sound) c.in_ok-pending.ensures.same)
    (further_then c.keep_type_codes.new.checker c.keep_size.new.checker c.put_name.new.checker (further_same c.keep_type_codes.new.checker c.keep_size.new.checker (same_sound c.keep_redeclared.new.checker c.keep_type_codes.new.checker c.in_ok-pending.ensures.same (same_sound c.type_with_old.new.checker c.keep_redeclared.new.checker c.in_ok-keep_redeclared.ensures.same c.in_ok-ty.ensures.puts.grows.sound)) c.in_ok-keep_size.ensures.same) (further_then c.keep_size.new.checker c.sized.new.checker c.put_name.new.checker (further_puts c.keep_size.new.checker c.sized.new.checker c.in_ok-whole.ensures.puts) c.in_ok-put_name.ensures.further))))

pub returns-clause-waits : goal.returns-clause-waits
returns-clause-waits c =
    waits_later c.keep_type_codes.new.checker.types c.put_name.new.checker.types (same_sound c.keep_redeclared.new.checker c.keep_type_codes.new.checker c.in_ok-pending.ensures.same (same_sound c.type_with_old.new.checker c.keep_redeclared.new.checker c.in_ok-keep_redeclared.ensures.same c.in_ok-ty.ensures.puts.grows.sound)).ready.table_is (further_then c.keep_type_codes.new.checker c.keep_size.new.checker c.put_name.new.checker (further_same c.keep_type_codes.new.checker c.keep_size.new.checker (same_sound c.keep_redeclared.new.checker c.keep_type_codes.new.checker c.in_ok-pending.ensures.same (same_sound c.type_with_old.new.checker c.keep_redeclared.new.checker c.in_ok-keep_redeclared.ensures.same c.in_ok-ty.ensures.puts.grows.sound)) c.in_ok-keep_size.ensures.same) (further_then c.keep_size.new.checker c.sized.new.checker c.put_name.new.checker (further_puts c.keep_size.new.checker c.sized.new.checker c.in_ok-whole.ensures.puts) c.in_ok-put_name.ensures.further)).longer c.how_declared-how.result.scope c.args.scope c.how_declared-how.result.given c.args.given c.in_ok-pending.pending
    c.how_declared-how.ensures.stands c.how_declared-how.ensures.gives c.in_ok-pending.ensures.waits

pub put_name-requires-clause-recorded : goal.put_name-requires-clause-recorded
put_name-requires-clause-recorded c =
    c.type_recorded-recorded.ensures.known c.sized.new.checker.types
    (known_unchanged c.args.checker.now c.type_with_old.new.checker c.keep_redeclared.new.checker c.keep_type_codes.new.checker c.keep_size.new.checker c.sized.new.checker c.args.t.now c.requires.sound c.in_ok-ty.ensures.puts
    c.in_ok-keep_redeclared.ensures.same c.in_ok-pending.ensures.same c.in_ok-keep_size.ensures.same c.in_ok-whole.ensures.puts c.requires.known)
    c.in_ok-whole.ensures.known

pub returns-clause-declares : goal.returns-clause-declares
returns-clause-declares c =
    name_declared c.args.checker.now c.type_with_old.new.checker c.keep_redeclared.new.checker c.keep_type_codes.new.checker c.keep_size.new.checker c.sized.new.checker c.put_name.new.checker c.args.scope c.args.words.now c.args.given (name_in c.args.named.now) c.args.named.now.at c.args.t.now c.args.init.now c.how_declared-how.result
    c.in_ok-ty.ty c.in_ok-whole.whole c.type_recorded-recorded.result c.in_ok-declared.declared c.in_ok-pending.pending refl c.requires.sound (same_sound c.keep_type_codes.new.checker c.keep_size.new.checker c.in_ok-keep_size.ensures.same (same_sound c.keep_redeclared.new.checker c.keep_type_codes.new.checker c.in_ok-pending.ensures.same (same_sound c.type_with_old.new.checker c.keep_redeclared.new.checker c.in_ok-keep_redeclared.ensures.same c.in_ok-ty.ensures.puts.grows.sound))) c.requires.known
    (pending_listed c.keep_type_codes.new.checker.types c.how_declared-how.result.scope c.how_declared-how.result.given c.in_ok-pending.pending c.in_ok-pending.ensures.waits)
    (further_then c.keep_type_codes.new.checker c.keep_size.new.checker c.put_name.new.checker (further_same c.keep_type_codes.new.checker c.keep_size.new.checker (same_sound c.keep_redeclared.new.checker c.keep_type_codes.new.checker c.in_ok-pending.ensures.same (same_sound c.type_with_old.new.checker c.keep_redeclared.new.checker c.in_ok-keep_redeclared.ensures.same c.in_ok-ty.ensures.puts.grows.sound)) c.in_ok-keep_size.ensures.same) (further_then c.keep_size.new.checker c.sized.new.checker c.put_name.new.checker (further_puts c.keep_size.new.checker c.sized.new.checker c.in_ok-whole.ensures.puts) c.in_ok-put_name.ensures.further)).longer (same_sound c.keep_redeclared.new.checker c.keep_type_codes.new.checker c.in_ok-pending.ensures.same (same_sound c.type_with_old.new.checker c.keep_redeclared.new.checker c.in_ok-keep_redeclared.ensures.same c.in_ok-ty.ensures.puts.grows.sound)).ready.table_is c.how_declared-how.ensures c.in_ok-ty.ensures.puts c.in_ok-ty.ensures.value c.in_ok-declared.ensures.value c.in_ok-keep_redeclared.ensures.kept c.in_ok-keep_redeclared.ensures.same
    c.in_ok-pending.ensures.asks c.in_ok-pending.ensures.same c.in_ok-keep_size.ensures.kept c.in_ok-keep_size.ensures.same c.in_ok-whole.ensures.puts c.in_ok-whole.ensures.means c.in_ok-put_name.ensures.puts
    (type_unchanged c.args.checker.now c.type_with_old.new.checker c.keep_redeclared.new.checker c.keep_type_codes.new.checker c.keep_size.new.checker c.sized.new.checker c.args.t.now c.requires.sound c.in_ok-ty.ensures.puts
    c.in_ok-keep_redeclared.ensures.same c.in_ok-pending.ensures.same c.in_ok-keep_size.ensures.same c.in_ok-whole.ensures.puts c.requires.known)
    (c.type_recorded-recorded.ensures.value c.sized.new.checker.types) c.in_ok-put_name.ensures.records
