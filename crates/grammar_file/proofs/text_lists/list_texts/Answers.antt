use Rattle.std.proofs.Common.{◌+◌, sym, subst}
use Rattle.slt_grammar.specs.Keyed.{rules_of}
use Rattle.grammar_file.specs.TextLists.{AreTextLists}
use Rattle.grammar_file.proofs.TextListing.{lists-none, lists-more}
use Rattle.grammar_file.proofs.text_lists.list_texts.Goals as goal

pub rules-init : goal.rules-init
rules-init g c = lists-none c.args.names.now (rules_of c.args.grammar.now.rules) c.new-lists.result.items c.new-lists.ensures.items

pub rules-preserved : goal.rules-preserved
rules-preserved g c =
    let G = rules_of c.args.grammar.now.rules in
    let more = lists-more c.args.names.now G c.rules.rule c.rules.lists.items c.in_ok-segments.segments c.rules.invariant c.in_ok-segments.ensures in
    subst (AreTextLists c.args.names.now G (c.rules.rule + 1)) (sym c.in_ok-push.ensures.items) more
