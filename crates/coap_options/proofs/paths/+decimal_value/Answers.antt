use Rattle.std.proofs.Common.{◌-◌, length, arith}
use Rattle.std.proofs.lemmas.List.{length-take}
use Rattle.coap_options.proofs.PathLemmas.{front_digits, front_small}
use Rattle.coap_options.proofs.paths.+decimal_value.Goals as goal

pub decimal_value-requires : goal.decimal_value-requires
decimal_value-requires t c =
    let size = length-take (length c.args.text.now - 1) c.args.text.now in (
      omega (arith, size, c.in-len1-up.len_at_least),
      (
        omega (arith, size, c.requires.few),
        front_digits (length c.args.text.now - 1)
            c.args.text.now c.requires.digits,
      ),
    )

pub overflow_mul-result : goal.overflow_mul-result
overflow_mul-result t c =
    omega (
      arith,
      c.decimal_value.ensures.value,
      front_small c.args.text.now c.requires.few
          c.in-len1-up.len_at_least c.requires.digits,
    )

pub overflow_add-result : goal.overflow_add-result
overflow_add-result t c =
    omega (
      arith,
      c.type_inv.text (length c.args.text.now - 1),
      c.from.ensures,
      c.decimal_value.ensures.value,
      front_small c.args.text.now c.requires.few
          c.in-len1-up.len_at_least c.requires.digits,
    )
