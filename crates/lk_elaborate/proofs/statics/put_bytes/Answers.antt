use Rattle.std.proofs.Common.{◌+◌, drop, get_or, arith, refl}
use Rattle.lk_elab_init.proofs.Giving.{nothing_left}
use Rattle.lk_elaborate.proofs.MakingStatics.{all_bytes_put, byte_left, no_byte_put, one_byte_put}
use Rattle.lk_elaborate.proofs.statics.put_bytes.Goals as goal

pub loop-byte-init : goal.loop-byte-init
loop-byte-init c = no_byte_put c.args.elements.now c.args.path.now c.args.bytes.now c.args.out.now.items c.args.out.now.items refl

pub loop-byte-preserved : goal.loop-byte-preserved
loop-byte-preserved c =
    let all = c.args.bytes.now in
    let k = c.loop-byte.byte-index in
    one_byte_put c.args.elements.now c.args.path.now all c.args.out.now.items c.loop-byte.out.items c.put_byte.new.out.items c.loop-byte.place c.in-Some.next (get_or all k 0) (drop k all) (drop (k + 1) all)
    (let next = c.in-Some.ensures.1 in omega (arith, next)) (byte_left all k c.loop-byte-test.true) c.loop-byte.invariant c.in_ok-put_byte.ensures

pub returns : goal.returns
returns c =
    let all = c.args.bytes.now in
    let k = c.loop-byte.byte-index in
    all_bytes_put c.args.elements.now c.args.path.now all c.args.out.now.items c.loop-byte.out.items c.loop-byte.place (drop k all) (nothing_left all k c.loop-byte-test.false) c.loop-byte.invariant
