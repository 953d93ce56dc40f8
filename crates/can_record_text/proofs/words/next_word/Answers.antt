use Rattle.std.proofs.Common.{◌+◌, ◌∙◌, length}
use Rattle.can_record_text.proofs.Wording.{word_goes, after_goes, word_ends, after_ends, word_all, after_all, rest_of}
use Rattle.can_record_text.proofs.words.next_word.Goals as goal

pub returns-then-text-end-le32-clause-word : goal.returns-then-text-end-le32-clause-word
returns-then-text-end-le32-clause-word c = word_ends c.args.text.now c.loop-end.end 0 c.loop-end-test.true c.if-text-end-le32.true c.loop-end.invariant.word

pub returns-then-text-end-le32-clause-after : goal.returns-then-text-end-le32-clause-after
returns-then-text-end-le32-clause-after c = rest_of c.args.text.now (c.loop-end.end + 1) ∙ after_ends c.args.text.now c.loop-end.end 0 c.loop-end-test.true c.if-text-end-le32.true c.loop-end.invariant.after

pub loop-end-preserved : goal.loop-end-preserved
loop-end-preserved c = record {
  word = word_goes c.args.text.now c.loop-end.end 0 c.loop-end-test.true c.if-text-end-le32.false c.loop-end.invariant.word;
  after = after_goes c.args.text.now c.loop-end.end 0 c.loop-end-test.true c.if-text-end-le32.false c.loop-end.invariant.after;
}

pub returns-clause-word : goal.returns-clause-word
returns-clause-word c = word_all c.args.text.now c.loop-end.end c.loop-end-test.false c.loop-end.invariant.word

pub returns-clause-after : goal.returns-clause-after
returns-clause-after c = rest_of c.args.text.now (length c.args.text.now) ∙ after_all c.args.text.now c.loop-end.end c.loop-end-test.false c.loop-end.invariant.after
