use Rattle.store_words.proofs.Exact.{given, no_values, refused}
use Rattle.store_words.proofs.words.read_settings.Goals as goal

pub returns-in-Err-clause-bad : goal.returns-in-Err-clause-bad
returns-in-Err-clause-bad c = λ bad rank repair is. refused _ _ c.in-Err.error rank repair c.in-Ok.ensures c.in-Err.ensures.kinds (c.words_error.ensures bad) is

pub returns-in-Some-clause-given : goal.returns-in-Some-clause-given
returns-in-Some-clause-given c =
    given _ _ c.in-Ok-try_get_matches_from.matches _ _ c.in-Ok.ensures c.in-Ok-try_get_matches_from.ensures.kinds c.in-Ok-try_get_matches_from.ensures.matches c.in-Some.ensures.exact

pub returns-clause-bad : goal.returns-clause-bad
returns-clause-bad c = λ bad rank repair is.
    no_values _ _ c.in-Ok-try_get_matches_from.matches rank repair c.in-Ok.ensures c.in-Ok-try_get_matches_from.ensures.matches c.in-None.ensures.exact is
