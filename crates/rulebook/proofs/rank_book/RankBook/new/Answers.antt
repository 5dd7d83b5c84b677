use Rattle.std.proofs.Common.{◌≡◌, take, arith}
use Rattle.std.proofs.lemmas.Grind.{common_steps}
use Rattle.rulebook.specs.Books.{ranked, rank_row}
use Rattle.rulebook.specs.Listed.{listing}
use Rattle.rulebook.proofs.Answering.{answering, rank_narrow}
use Rattle.rulebook.proofs.rank_book.RankBook.new.Goals as goal

pub returns-clause-answers : goal.returns-clause-answers
returns-clause-answers c =
    let same : take c.min-count.result c.rank_rows-rows.result ≡ ranked (listing c.args.sheet.now) c.args.ranks.now c.args.needs.now = grind (arith, common_steps) in
    answering (rank_row c.args.needs.now) (rank_narrow c.args.needs.now (omega arith)) _ _ same
