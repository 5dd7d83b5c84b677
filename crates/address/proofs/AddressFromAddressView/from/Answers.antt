use Rattle.std.proofs.Common.{rules, ◌≡◌, length, ◌∙◌, arith}
use Rattle.std.proofs.lemmas.List.{take_all}
use Rattle.std.proofs.lemmas.Bool.{and_parts}
use Rattle.dictionary.specs.Addresses.{sized}
use Rattle.address.proofs.Sizes.{sized_within}
use Rattle.address.proofs.AddressFromAddressView.from.Goals as goal

pub returns : goal.returns
returns c h =
    let ip = c.args.view.ip.now in
    let realm = c.args.view.realm.now in
    let parts = and_parts (sized 4 4 ip) (sized 1 32 realm) h in
    let long = sized_within 4 4 ip parts.0 in
    let four : length ip ≡ 4 = omega (arith, long) in
    let same : c.new.result.ip ≡ ip = search rules in
    let whole = c.new.ensures.realm ∙ take_all 32 realm (sized_within 1 32 realm parts.1).1 in
    λ i. record { ip = same i; realm = whole i }
