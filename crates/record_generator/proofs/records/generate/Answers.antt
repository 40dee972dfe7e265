use Rattle.std.proofs.Common.{rules, ◌≡◌, ◌∙◌, ◌∷◌, [], ◌++◌, sym, ap, codes, append_assoc}
use Rattle.std.proofs.lemmas.Result.{IfOk-weaker}
use Rattle.plain_tree.specs.Tree.{trees}
use Rattle.xml_nodes.specs.Machine.{Closed, Opened, events, events_all}
use Rattle.record_generator.specs.Records.{generated, record_of, records_below}
use Rattle.record_generator.proofs.Calls.{document_calls, record_calls}
use Rattle.record_generator.proofs.records.generate.Goals as goal

pub loop-number-preserved : goal.loop-number-preserved
loop-number-preserved g c =
    let before = g.B.Builder.log c.args.builder.now in
    let n = c.loop-number.number in
    record {
      calls = c.in_ok-put_record.ensures.calls
          ∙ (ap (λ es. es ++ events (record_of n) []) c.loop-number.invariant.calls
          ∙ (append_assoc before (Opened (codes "records") ∷ events_all (trees (records_below n)) []) (events (record_of n) [])
          ∙ ap (λ es. before ++ Opened (codes "records") ∷ es) (sym (record_calls n))));
      depth = search rules;
      sound = search rules;
    }

pub returns-clause-calls : goal.returns-clause-calls
returns-clause-calls g c =
    let before = g.B.Builder.log c.args.builder.now in
    let n = c.loop-number.number in
    let all : n ≡ c.args.records = search rules in
    IfOk-weaker c.close.result _ _ (λ x h. h
    ∙ (ap (λ es. es ++ Closed ∷ []) c.loop-number.invariant.calls
    ∙ (append_assoc before (Opened (codes "records") ∷ events_all (trees (records_below n)) []) (Closed ∷ [])
    ∙ (ap (λ es. before ++ es) (sym (document_calls n)) ∙ ap (λ k. before ++ events (generated k) []) all)))) c.close.ensures.log
