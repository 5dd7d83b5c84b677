use Rattle.std.proofs.Common.{Bool, not, cond, Some, sym, ap, [], ◌∷◌, List, rules, ◌∙◌}
use Rattle.std.specs.Option.{option_or}
use borrow.Author.Tests.{tests}
use Rattle.std.proofs.lemmas.Iterator.{YieldsList-from_slice}
use Rattle.std.proofs.lemmas.Iterator.Consumers.{YieldsList-from_copied, YieldsList-at}
use Rattle.std.proofs.lemmas.Iterator.Adapters.{option_map_id}
use Rattle.std.proofs.lemmas.Iterator.Search.{find_from_yields_List}
use Rattle.dictionary.specs.declared.known.Known.{Known}
use Rattle.dictionary.specs.declared.known.Known.TheVariants.{SessionId, VendorSpecificApplicationId, AuthSessionState, OriginHost, OriginRealm, DestinationRealm, AfApplicationIdentifier}
use Rattle.request.specs.Faults.{lacking, needed_by}
use Rattle.request.specs.Scans.{marked}
use Rattle.request.proofs.Lacks.{rows, lacking_rows}
use Rattle.request.proofs.scan.Scan.missing.Goals as goal

needed : List Known
needed = VendorSpecificApplicationId ∷ AuthSessionState ∷ OriginHost ∷ OriginRealm ∷ DestinationRealm ∷ AfApplicationIdentifier ∷ []

pub returns : goal.returns
unfolding needed
returns c =
    let here : Known → Bool = marked c.args.self.now.seen in
    let absent = find_from_yields_List (λ k. not (here k)) c.find.new.self _ c.find.result c.find.ensures.ran (YieldsList-from_copied (YieldsList-at c.copied.ensures.source (YieldsList-from_slice needed c.iter.ensures.rest))) (λ x b q k. search (rules, tests)) in
    let more = needed_by c.args.command here in
    c.or.ensures
    ∙ (λ i. option_or ((sym (option_map_id c.find.result) ∙ absent) i) (c.missing_for.ensures i))
    ∙ lacking_rows here more needed
    ∙ ap (λ b. cond b (lacking (rows needed here more)) (Some SessionId)) (sym c.if-not-is_headed.false)
