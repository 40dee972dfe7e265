-- Two passes over its postfix code give a model's front and places.
use Rattle.std.proofs.Common.{◌≡◌, ◌≤◌, ℕ, ◌+◌, List, [], ◌∷◌, ◌++◌, reverse, length, refl, ap, sym, ◌∙◌, append_assoc, append-nil, length-append, arith}
use Rattle.std.proofs.lemmas.List.{reverse-append, reverse-reverse}
use Rattle.content_models.specs.declared.postfix.Op.{Op}
use Rattle.content_models.specs.declared.postfix.Op.TheVariants.{Push, PushNothing, Join, Choose, MakeOptional, MakeAny, MakeSome}
use Rattle.content_models.specs.declared.ways.Front.{Front}
use Rattle.content_models.specs.declared.ways.Way.{Way}
use Rattle.content_models.specs.Compiling.{Step, no_front, forward, fronts_left, ways_before, place_on, backward}
use Rattle.content_models.specs.Matching.{places}
use Rattle.content_models.specs.Models.{Model, Named, Nothing, Then, Either, Optional, Any, Some}
use Rattle.content_models.specs.Postfix.{code_on}
use Rattle.content_models.specs.Ways.{Place, front_of, way_of, places_of}

-- the postfix code of a model from the front, and then more
abbrev postfix : Model → List Op → List Op
postfix (Named w) o = Push w ∷ o
postfix Nothing o = PushNothing ∷ o
postfix (Then a b) o = postfix a (postfix b (Join ∷ o))
postfix (Either a b) o = postfix a (postfix b (Choose ∷ o))
postfix (Optional a) o = postfix a (MakeOptional ∷ o)
postfix (Any a) o = postfix a (MakeAny ∷ o)
postfix (Some a) o = postfix a (MakeSome ∷ o)

cons : (op : Op) (o : List Op) → reverse (op ∷ o) ≡ reverse o ++ op ∷ []
cons op o = reverse-append (op ∷ []) o

one_on : (op : Op) (o p : List Op) → reverse (op ∷ o) ++ p ≡ reverse o ++ op ∷ p
one_on op o p = ap (λ x. x ++ p) (cons op o) ∙ append_assoc (reverse o) (op ∷ []) p

code-postfix : (m : Model) (o p : List Op) → reverse (code_on m o) ++ p ≡ reverse o ++ postfix m p
code-postfix (Named w) o p = one_on (Push w) o p
code-postfix Nothing o p = one_on PushNothing o p
code-postfix (Then a b) o p = one_on Join (code_on b (code_on a o)) p ∙ code-postfix b (code_on a o) (Join ∷ p) ∙ code-postfix a o (postfix b (Join ∷ p))
code-postfix (Either a b) o p = one_on Choose (code_on b (code_on a o)) p ∙ code-postfix b (code_on a o) (Choose ∷ p) ∙ code-postfix a o (postfix b (Choose ∷ p))
code-postfix (Optional a) o p = one_on MakeOptional (code_on a o) p ∙ code-postfix a o (MakeOptional ∷ p)
code-postfix (Any a) o p = one_on MakeAny (code_on a o) p ∙ code-postfix a o (MakeAny ∷ p)
code-postfix (Some a) o p = one_on MakeSome (code_on a o) p ∙ code-postfix a o (MakeSome ∷ p)

-- a model's steps, put on those before, where these fronts are on the stack
abbrev steps_on : ℕ → List Front → Model → List Step → List Step
steps_on at fs (Named w) done = record { op = Push w; front = no_front } ∷ done
steps_on at fs Nothing done = record { op = PushNothing; front = no_front } ∷ done
steps_on at fs (Then a b) done = record { op = Join; front = front_of (at + places a) b } ∷ steps_on (at + places a) (front_of at a ∷ fs) b (steps_on at fs a done)
steps_on at fs (Either a b) done = record { op = Choose; front = front_of (at + places a) b } ∷ steps_on (at + places a) (front_of at a ∷ fs) b (steps_on at fs a done)
steps_on at fs (Optional a) done = record { op = MakeOptional; front = front_of at a } ∷ steps_on at fs a done
steps_on at fs (Any a) done = record { op = MakeAny; front = front_of at a } ∷ steps_on at fs a done
steps_on at fs (Some a) done = record { op = MakeSome; front = front_of at a } ∷ steps_on at fs a done

none_more : (n : ℕ) → n ≡ n + 0
none_more n = omega arith

both_more : (n x y : ℕ) → (n + x) + y ≡ n + (x + y)
both_more n x y = omega arith

forward-steps : (m : Model) (at : ℕ) (fs : List Front) (ops : List Op) (done : List Step) → forward at fs (postfix m ops) done ≡ forward (at + places m) (front_of at m ∷ fs) ops (steps_on at fs m done)
forward-steps (Named w) at fs ops done = refl
forward-steps Nothing at fs ops done = ap (λ n. forward n (front_of at Nothing ∷ fs) ops (steps_on at fs Nothing done)) (none_more at)
forward-steps (Then a b) at fs ops done =
    forward-steps a at fs (postfix b (Join ∷ ops)) done
    ∙ forward-steps b (at + places a) (front_of at a ∷ fs) (Join ∷ ops) (steps_on at fs a done)
    ∙ ap (λ n. forward n (front_of at (Then a b) ∷ fs) ops (steps_on at fs (Then a b) done)) (both_more at (places a) (places b))
forward-steps (Either a b) at fs ops done =
    forward-steps a at fs (postfix b (Choose ∷ ops)) done
    ∙ forward-steps b (at + places a) (front_of at a ∷ fs) (Choose ∷ ops) (steps_on at fs a done)
    ∙ ap (λ n. forward n (front_of at (Either a b) ∷ fs) ops (steps_on at fs (Either a b) done)) (both_more at (places a) (places b))
forward-steps (Optional a) at fs ops done = forward-steps a at fs (MakeOptional ∷ ops) done
forward-steps (Any a) at fs ops done = forward-steps a at fs (MakeAny ∷ ops) done
forward-steps (Some a) at fs ops done = forward-steps a at fs (MakeSome ∷ ops) done

left-fronts : (m : Model) (at : ℕ) (fs : List Front) (ops : List Op) → fronts_left at fs (postfix m ops) ≡ fronts_left (at + places m) (front_of at m ∷ fs) ops
left-fronts (Named w) at fs ops = refl
left-fronts Nothing at fs ops = ap (λ n. fronts_left n (front_of at Nothing ∷ fs) ops) (none_more at)
left-fronts (Then a b) at fs ops =
    left-fronts a at fs (postfix b (Join ∷ ops)) ∙ left-fronts b (at + places a) (front_of at a ∷ fs) (Join ∷ ops) ∙ ap (λ n. fronts_left n (front_of at (Then a b) ∷ fs) ops) (both_more at (places a) (places b))
left-fronts (Either a b) at fs ops =
    left-fronts a at fs (postfix b (Choose ∷ ops)) ∙ left-fronts b (at + places a) (front_of at a ∷ fs) (Choose ∷ ops) ∙ ap (λ n. fronts_left n (front_of at (Either a b) ∷ fs) ops) (both_more at (places a) (places b))
left-fronts (Optional a) at fs ops = left-fronts a at fs (MakeOptional ∷ ops)
left-fronts (Any a) at fs ops = left-fronts a at fs (MakeAny ∷ ops)
left-fronts (Some a) at fs ops = left-fronts a at fs (MakeSome ∷ ops)

backward-places : (m : Model) (at : ℕ) (fs : List Front) (w : Way) (ws : List Way) (done : List Step) (ps : List Place) → backward (w ∷ ws) (steps_on at fs m done) ps ≡ backward ws done (places_of at m w ++ ps)
backward-places (Named n) at fs w ws done ps = refl
backward-places Nothing at fs w ws done ps = refl
backward-places (Then a b) at fs w ws done ps =
    backward-places b (at + places a) (front_of at a ∷ fs) w (way_of (at + places a) b w ∷ ws) (steps_on at fs a done) ps
    ∙ backward-places a at fs (way_of (at + places a) b w) ws done (places_of (at + places a) b w ++ ps)
    ∙ ap (backward ws done) (sym (append_assoc (places_of at a (way_of (at + places a) b w)) (places_of (at + places a) b w) ps))
backward-places (Either a b) at fs w ws done ps =
    backward-places b (at + places a) (front_of at a ∷ fs) w (w ∷ ws) (steps_on at fs a done) ps
    ∙ backward-places a at fs w ws done (places_of (at + places a) b w ++ ps)
    ∙ ap (backward ws done) (sym (append_assoc (places_of at a w) (places_of (at + places a) b w) ps))
backward-places (Optional a) at fs w ws done ps = backward-places a at fs w ws done ps
backward-places (Any a) at fs w ws done ps = backward-places a at fs (way_of at (Any a) w) ws done ps
backward-places (Some a) at fs w ws done ps = backward-places a at fs (way_of at (Any a) w) ws done ps

-- code of a model
module _ (m : Model) (code : List Op) (is : reverse code ≡ code_on m []) where
  forwards : code ≡ postfix m []
  forwards = sym (reverse-reverse code) ∙ ap reverse is ∙ sym (append-nil (reverse (code_on m []))) ∙ code-postfix m [] []

  -- both passes over it
  pub code-places : (w : Way) → backward (w ∷ []) (forward 0 [] code []) [] ≡ places_of 0 m w
  code-places w =
      ap (λ o. backward (w ∷ []) (forward 0 [] o []) []) forwards ∙ ap (λ s. backward (w ∷ []) s []) (forward-steps m 0 [] [] []) ∙ backward-places m 0 [] w [] [] [] ∙ append-nil (places_of 0 m w)

  pub code-front : fronts_left 0 [] code ≡ front_of 0 m ∷ []
  code-front = ap (fronts_left 0 []) forwards ∙ left-fronts m 0 [] []

pub places-length : (m : Model) (at : ℕ) (w : Way) → length (places_of at m w) ≡ places m
places-length (Named n) at w = refl
places-length Nothing at w = refl
places-length (Then a b) at w =
    length-append (places_of at a (way_of (at + places a) b w)) (places_of (at + places a) b w) ∙ ap (λ n. n + length (places_of (at + places a) b w)) (places-length a at (way_of (at + places a) b w)) ∙ ap (λ n. places a + n) (places-length b (at + places a) w)
places-length (Either a b) at w =
    length-append (places_of at a w) (places_of (at + places a) b w) ∙ ap (λ n. n + length (places_of (at + places a) b w)) (places-length a at w) ∙ ap (λ n. places a + n) (places-length b (at + places a) w)
places-length (Optional a) at w = places-length a at w
places-length (Any a) at w = places-length a at (way_of at (Any a) w)
places-length (Some a) at w = places-length a at (way_of at (Any a) w)

-- places are put before those behind
place-longer : (op : Op) (w : Way) (ps : List Place) → length ps ≤ length (place_on op w ps)
place-longer (Push n) w ps = omega arith
place-longer PushNothing w ps = omega arith
place-longer Join w ps = omega arith
place-longer Choose w ps = omega arith
place-longer MakeOptional w ps = omega arith
place-longer MakeAny w ps = omega arith
place-longer MakeSome w ps = omega arith

pub backward-longer : (ws : List Way) (steps : List Step) (ps : List Place) → length ps ≤ length (backward ws steps ps)
backward-longer ws [] ps = omega arith
backward-longer [] (s ∷ steps) ps = omega arith
backward-longer (w ∷ ws) (s ∷ steps) ps = omega (arith, place-longer s.op w ps, backward-longer (ways_before s.op s.front w ws) steps (place_on s.op w ps))
