use Rattle.std.proofs.Common.{get_or}
use Rattle.digram_index.specs.Triples.{HasPartner, four_of}
use Rattle.digram_index.proofs.Fours.{first, second, third, last, partner-real}
use Rattle.digram_index.proofs.triples.has_two.Goals as goal

pub returns-then-has_partner : goal.returns-then-has_partner
returns-then-has_partner c = first (HasPartner (λ k. get_or c.args.uppers.now k 0) (four_of c.args.few.now)) (partner-real (λ k. get_or c.args.uppers.now k 0) (four_of c.args.few.now)) c.args.few.now.first c.args.few.now.second c.args.few.now.third c.args.few.now.fourth c.if-has_partner.ensures

pub returns-then-has_partner-2 : goal.returns-then-has_partner-2
returns-then-has_partner-2 c = second (HasPartner (λ k. get_or c.args.uppers.now k 0) (four_of c.args.few.now)) (partner-real (λ k. get_or c.args.uppers.now k 0) (four_of c.args.few.now)) c.args.few.now.first c.args.few.now.second c.args.few.now.third c.args.few.now.fourth c.if-has_partner-2.ensures

pub returns-then-has_partner-3 : goal.returns-then-has_partner-3
returns-then-has_partner-3 c = third (HasPartner (λ k. get_or c.args.uppers.now k 0) (four_of c.args.few.now)) (partner-real (λ k. get_or c.args.uppers.now k 0) (four_of c.args.few.now)) c.args.few.now.first c.args.few.now.second c.args.few.now.third c.args.few.now.fourth c.if-has_partner-3.ensures

pub returns : goal.returns
returns c = last (HasPartner (λ k. get_or c.args.uppers.now k 0) (four_of c.args.few.now)) (partner-real (λ k. get_or c.args.uppers.now k 0) (four_of c.args.few.now)) c.args.few.now.first c.args.few.now.second c.args.few.now.third c.args.few.now.fourth c.has_partner-4.result c.has_partner-4.ensures c.if-has_partner.ensures c.if-has_partner-2.ensures c.if-has_partner-3.ensures
