use Rattle.std.proofs.Common.{get_or}
use Rattle.digram_index.specs.Triples.{IsPair}
use Rattle.digram_index.proofs.Fours.{first, second, third, last, pair-real}
use Rattle.digram_index.proofs.triples.has_partner.Goals as goal

pub returns-then-is_pair : goal.returns-then-is_pair
returns-then-is_pair c = first (IsPair (λ k. get_or c.args.uppers.now k 0) c.args.x) (pair-real (λ k. get_or c.args.uppers.now k 0) c.args.x) c.args.few.now.first c.args.few.now.second c.args.few.now.third c.args.few.now.fourth c.if-is_pair.ensures

pub returns-then-is_pair-2 : goal.returns-then-is_pair-2
returns-then-is_pair-2 c = second (IsPair (λ k. get_or c.args.uppers.now k 0) c.args.x) (pair-real (λ k. get_or c.args.uppers.now k 0) c.args.x) c.args.few.now.first c.args.few.now.second c.args.few.now.third c.args.few.now.fourth c.if-is_pair-2.ensures

pub returns-then-is_pair-3 : goal.returns-then-is_pair-3
returns-then-is_pair-3 c = third (IsPair (λ k. get_or c.args.uppers.now k 0) c.args.x) (pair-real (λ k. get_or c.args.uppers.now k 0) c.args.x) c.args.few.now.first c.args.few.now.second c.args.few.now.third c.args.few.now.fourth c.if-is_pair-3.ensures

pub returns : goal.returns
returns c = last (IsPair (λ k. get_or c.args.uppers.now k 0) c.args.x) (pair-real (λ k. get_or c.args.uppers.now k 0) c.args.x) c.args.few.now.first c.args.few.now.second c.args.few.now.third c.args.few.now.fourth c.is_pair-4.result c.is_pair-4.ensures c.if-is_pair.ensures c.if-is_pair-2.ensures c.if-is_pair-3.ensures
