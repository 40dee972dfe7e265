use Rattle.digram_index.proofs.BuildLemmas.{lower-told}
use Rattle.digram_index.proofs.nodes.is_lower.Goals as goal

pub returns : goal.returns
returns c =
    lower-told c.args.grammar.now.rules c.args.key c.site-site.result.label c.site-site.result.arity c.site-site.result.parent c.is_real.result (c.requires.0, (c.requires.1, c.requires.2)) c.site-site.ensures.node c.site-site.ensures.parent c.is_real.ensures
