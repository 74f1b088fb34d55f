-- `dp8_replica_fresh` meets its contract: as many zeros as there are words.
use Rattle.std.proofs.Common.{◌≡◌, ap, ◌∙◌, length, replicate, rules}
use Rattle.table_words.specs.Layout.{word_count}
use Rattle.table_words.specs.Words.{fresh_words}
use Rattle.c_api.proofs.replicas.dp8_replica_fresh.Goals as goal

pub returns : goal.returns
unfolding fresh_words
returns c =
    let n : length c.args.replica.now ≡ word_count = search rules in
    c.clear.ensures ∙ ap (λ n. replicate n 0) n
