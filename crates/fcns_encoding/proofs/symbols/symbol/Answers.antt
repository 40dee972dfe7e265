use Rattle.std.proofs.Common.{◌∷◌, [], refl}
use Rattle.fcns_encoding.specs.Calls.{started_pairs}
use Rattle.fcns_encoding.proofs.InternLemmas.{interned, Interns-append}
use Rattle.fcns_encoding.proofs.NameLemmas.{keeps_both}
use Rattle.fcns_encoding.proofs.symbols.symbol.Goals as goal

pub returns-clause-keeps : goal.returns-clause-keeps
returns-clause-keeps c = keeps_both _ _ _ (c.args.kind, c.args.name.now) c.in_ok-begin.ensures.keeps (interned _ _ _ _ _ refl c.in_ok-place.ensures.kept c.in_ok-place.ensures.added)

pub returns-clause-named : goal.returns-clause-named
returns-clause-named c log h =
    Interns-append [] c.begin.new.names _ (started_pairs log) ((c.args.kind, c.args.name.now) ∷ []) (c.in_ok-begin.ensures.started log h) (interned _ _ _ _ _ refl c.in_ok-place.ensures.kept c.in_ok-place.ensures.added)
