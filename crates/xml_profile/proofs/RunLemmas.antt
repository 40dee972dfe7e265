-- A run of characters makes no calls, and opens and closes nothing.
use Rattle.std.proofs.Common.{◌≡◌, ℕ, Bool, true, false, List, [], ◌∷◌, ◌++◌, length, refl, ap, sym, ◌∙◌, subst, append-nil}
use Rattle.std.specs.Prelude.{Some, None, Result, Ok, Err, OnOk, ◌==◌, ◌&&◌, nat_le, option_and_then, if◌then◌else◌}
use Rattle.std.specs.Option.{option_map}
use Rattle.std.specs.Char.{encode_utf8}
use Rattle.std.specs.Str.{chars}
use Rattle.plain_tree.specs.XmlNames.{is_space}
use Rattle.xml_tokens.specs.Tokens.{Character}
use Rattle.xml_tokenizer.specs.Runs.{characters}
use Rattle.xml_tokenizer.specs.Taking.{taken, RefusesRun}
use Rattle.xml_nodes.specs.declared.stage.Stage.{Stage}
use Rattle.xml_nodes.specs.declared.stage.Stage.TheVariants as at
use Rattle.xml_nodes.specs.Machine.{State, Event, Stepped, step, step_at, steps, then_on, calls_before, outer_character, is_front, at_stage, passed, with_text, brackets_after}
use Rattle.xml_nodes.specs.Taking.{Built, IsReady, RefusesRun as Refuses}
use Rattle.xml_nodes.proofs.Grammar.{some_is}
use Rattle.xml_profile.specs.Feeding.{joint, joint_step}

-- no calls, and the same elements are open
record IsQuiet (s r : State) (calls : List Event) : Type 0 where
  none : calls ≡ []
  names : r.names ≡ s.names

module _ (s r : State) (calls : List Event) where
  none_some : ◌≡◌ {A = Stepped} None (Some (r, calls)) → ⊥
  none_some e = cc

  quiet_if : (b : Bool) (t : State) → t.names ≡ s.names → ◌≡◌ {A = Stepped} (if b then Some (t, []) else None) (Some (r, calls)) → IsQuiet s r calls
  quiet_if true t same e = let is = some_is (t, []) (r, calls) e in record { none = ap (λ z. z.1) (sym is); names = ap (λ z. z.0.names) (sym is) ∙ same }
  quiet_if false t same e = absurd (none_some e)

  quiet_unless : (b : Bool) (t : State) → t.names ≡ s.names → ◌≡◌ {A = Stepped} (if b then None else Some (t, [])) (Some (r, calls)) → IsQuiet s r calls
  quiet_unless true t same e = absurd (none_some e)
  quiet_unless false t same e = let is = some_is (t, []) (r, calls) e in record { none = ap (λ z. z.1) (sym is); names = ap (λ z. z.0.names) (sym is) ∙ same }

  quiet_outside : (c : ℕ) → outer_character s c ≡ Some (r, calls) → IsQuiet s r calls
  quiet_outside c e = by_space (is_space c) refl where
    by_space : (b : Bool) → is_space c ≡ b → IsQuiet s r calls
    by_space true f = quiet_if true (at_stage s (passed s.stage)) refl (rw f at e)
    by_space false f = quiet_if (is_front s.stage && (c == 0xFEFF)) (at_stage s at.Marked) refl (rw f at e)

  quiet : (c : ℕ) → step s (Character c) ≡ Some (r, calls) → IsQuiet s r calls
  quiet c e = by_stage s.stage (sym e) where
    by_stage : (z : Stage) → ◌≡◌ {A = Stepped} (Some (r, calls)) (step_at z s (Character c)) → IsQuiet s r calls
    by_stage at.Inside f = quiet_unless ((c == 62) && nat_le 2 s.brackets) (with_text s (s.text ++ encode_utf8 c) (brackets_after s.brackets c)) refl (sym f)
    by_stage at.Front f = quiet_outside c (sym f)
    by_stage at.Marked f = quiet_outside c (sym f)
    by_stage at.Prolog f = quiet_outside c (sym f)
    by_stage at.Typed f = quiet_outside c (sym f)
    by_stage at.Epilog f = quiet_outside c (sym f)

-- the sink's step over one character
quiet_step : (s r : State) (calls : List Event) (b : Built) (c : ℕ) → IsReady s b → step s (Character c) ≡ Some (r, calls)
    → IsReady r b × (joint_step (joint s b) (Character c) ≡ Some (joint r b))
quiet_step s r calls b c ready e =
    let q = quiet s r calls c e in
    let deep : b.depth ≡ length r.names = ready.1 ∙ ap length (sym q.names) in
    let same : ◌≡◌ {A = Built} (record { log = b.log ++ calls; sound = true; depth = length r.names }) b =
    ap (λ z. record { log = b.log ++ z; sound = true; depth = length r.names }) q.none ∙ ap (λ z. record { log = z; sound = true; depth = length r.names }) (append-nil b.log)
    ∙ ap (λ z. record { log = b.log; sound = z; depth = length r.names }) (sym ready.0) ∙ ap (λ z. record { log = b.log; sound = b.sound; depth = z }) (sym deep) in
    ((ready.0, deep), ap (λ z. option_map (λ q. joint q.0 (record { log = b.log ++ q.1; sound = true; depth = length q.0.names })) z) e ∙ ap (λ z. Some (joint r z)) same)

pub record Runs (now s : State) (b : Built) (cs : List ℕ) : Type 0 where
  pub ready : IsReady s b
  pub took : taken joint_step (joint now b) (characters cs) ≡ Some (joint s b)

pub runs : (cs : List ℕ) (now s : State) (calls : List Event) (b : Built) → IsReady now b → steps now (characters cs) ≡ Some (s, calls) → Runs now s b cs
runs [] now s calls b ready e =
    let same = ap (λ z. z.0) (some_is (now, []) (s, calls) e) in
    record { ready = subst (λ z. IsReady z b) same ready; took = ap (λ z. Some (joint z b)) same }
runs (c ∷ cs) now s calls b ready e = by_step (step now (Character c)) refl e (λ r d more f. runs cs r s more b d f) where
  by_rest : (r : State) (first : List Event) (o : Stepped) → steps r (characters cs) ≡ o → calls_before first o ≡ Some (s, calls) → (more : List Event) × (steps r (characters cs) ≡ Some (s, more))
  by_rest r first None f g = absurd (none_some now s calls g)
  by_rest r first (Some (t, more)) f g = let same = ap (λ z. z.0) (some_is (t, first ++ more) (s, calls) g) in (more, f ∙ ap (λ z. Some (z, more)) same)

  by_step : (o : Stepped) → step now (Character c) ≡ o → then_on o (λ r. steps r (characters cs)) ≡ Some (s, calls)
      → ((r : State) → IsReady r b → (more : List Event) → steps r (characters cs) ≡ Some (s, more) → Runs r s b cs) → Runs now s b (c ∷ cs)
  by_step None f g ih = absurd (none_some now s calls g)
  by_step (Some (r, first)) f g ih =
      let one = quiet_step now r first b c ready f in
      let rest = by_rest r first (steps r (characters cs)) refl g in
      let others = ih r one.0 rest.0 rest.1 in
      record { ready = others.ready; took = ap (λ z. option_and_then (λ next. taken joint_step next (characters cs)) z) one.1 ∙ others.took }

-- what the sink says of a run that the machine took, and of one that it refused
pub run_took : {E : Type 0} (result : Result (Unit {0}) E) (now s : State) (b : Built) (bytes : List ℕ) → IsReady now b
    → OnOk result (steps now (characters (chars bytes)) ≡ Some (s, [])) → OnOk result (Runs now s b (chars bytes))
run_took (Ok u) now s b bytes ready e = runs (chars bytes) now s [] b ready e
run_took (Err x) now s b bytes ready e = tt

pub run_refused : (now : State) (b : Built) (bytes : List ℕ) (at : ℕ) → IsReady now b → Refuses now bytes at → RefusesRun joint_step (joint now b) bytes at
run_refused now b bytes at ready r = record {
  before = r.before;
  character = r.character;
  after = r.after;
  whole = r.whole;
  begins = r.begins;
  last = joint r.last b;
  took = (runs r.before now r.last [] b ready r.took).took;
  refused = ap (λ z. option_map (λ q. joint q.0 (record { log = b.log ++ q.1; sound = true; depth = length q.0.names })) z) r.refused;
}
