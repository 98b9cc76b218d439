use Rattle.std.proofs.Common.{◌∙◌, ap}
use Rattle.lk_typed.specs.Ty.{is_array}
use Rattle.lk_elab_init.proofs.reached.value_kept.Goals as goal

pub returns : goal.returns
returns c = λ x is address.
    record {
      address = c.value_address_kept-address.ensures x is address;
      element = c.in_ok-is_element.ensures ∙ ap is_array is.type;
    }
