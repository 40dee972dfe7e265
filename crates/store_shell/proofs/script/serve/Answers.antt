use Rattle.std.proofs.Common.{refl, map}
use Rattle.std.specs.String.{string_bytes}
use Rattle.tree_outside.proofs.Beside.{Stays-refl}
use Rattle.store_shell.proofs.Ending.{Takes-nil, no_script}
use Rattle.store_shell.proofs.GivenSettings.{given_settings}
use Rattle.store_shell.proofs.script.serve.Goals as goal

pub returns-in-Ok-clause-serves : goal.returns-in-Ok-clause-serves
returns-in-Ok-clause-serves g c =
    let s = c.serve_by.ensures.serves in
    (c.in-Ok.settings, given_settings (map string_bytes c.args.words.now) c.serve_by.result c.in-Ok.settings c.in-Ok.ensures.given, s.0, s.1, s.2)

pub returns-in-Ok-clause-words : goal.returns-in-Ok-clause-words
returns-in-Ok-clause-words g c = λ same rank repair is. c.serve_by.ensures.words same

pub returns-in-Ok-clause-refused : goal.returns-in-Ok-clause-refused
returns-in-Ok-clause-refused g c = λ none. absurd (none c.in-Ok.settings.rank c.in-Ok.settings.repair c.in-Ok.ensures.given)

pub returns-in-Err-Bad-clause-serves : goal.returns-in-Err-Bad-clause-serves
returns-in-Err-Bad-clause-serves g c =
    (record { rank = 4; repair = 1 }, tt, no_script, Takes-nil (g.S.Source.left c.args.source.now), record { bytes = refl; world = refl; got = Stays-refl (g.K.Sink.got c.args.sink.now) })

pub returns-in-Err-Bad-clause-words : goal.returns-in-Err-Bad-clause-words
returns-in-Err-Bad-clause-words g c = λ same. c.in-Err-Bad.ensures.bad c.in-Err-Bad.field-0-is

pub returns-in-Err-Memory-clause-serves : goal.returns-in-Err-Memory-clause-serves
returns-in-Err-Memory-clause-serves g c =
    (record { rank = 4; repair = 1 }, tt, no_script, Takes-nil (g.S.Source.left c.args.source.now), record { bytes = refl; world = refl; got = Stays-refl (g.K.Sink.got c.args.sink.now) })
