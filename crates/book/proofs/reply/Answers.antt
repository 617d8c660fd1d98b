use Rattle.book.specs.Book.{command_of}
use Rattle.book.proofs.reply.Goals as goal

pub returns-then-not-known : goal.returns-then-not-known
unfolding command_of
returns-then-not-known c =
    let free = c.if-not-known.true in
    record { says = λ last. rw (← c.known.ensures, free); leaves = λ last. rw (← c.known.ensures, free) }

pub returns : goal.returns
unfolding command_of
returns c =
    let held = c.if-not-known.false in
    record { says = λ last. rw (← c.known.ensures, held); leaves = λ last. rw (← c.known.ensures, held) }
