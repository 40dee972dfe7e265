use Rattle.std.proofs.Common.{refl, arith}
use Rattle.fcns_encoding.proofs.InternLemmas.{interned}
use Rattle.fcns_encoding.proofs.NameLemmas.{started_first}
use Rattle.fcns_encoding.proofs.symbols.begin.Goals as goal

pub returns-in_ok-intern-clause-started : goal.returns-in_ok-intern-clause-started
returns-in_ok-intern-clause-started c log h =
    started_first log _ _ (omega arith) (interned _ _ _ _ _ refl c.in_ok-intern.ensures.kept c.in_ok-intern.ensures.added) h
