-- What "accepted" excludes, of each family of datagrams and of each layout: the one law, cited.
use Rattle.refusal.specs.Answer.{said, said_of}
use Rattle.profile.specs.declared.Profile.TheVariants.{Open}
use Rattle.request.specs.Said.{said_request}
use Rattle.request.specs.Reading.{read_request}
use Rattle.request.proofs.Demand2.{requests}
use Rattle.reply.specs.Reading.{read_reply}
use Rattle.reply.proofs.Replies.{replies}
use Rattle.event.specs.declared.Layout.{Layout}
use Rattle.event.specs.Layout.{width_of}
use Rattle.event.specs.Reading.{said_event, read_event}
use Rattle.event.specs.Demand2.{published}
use Rattle.change.specs.Excludes.{Excludes}
use Rattle.change.proofs.Excluding.{excludes}

-- requests, colour requests among them
pub requests_exclude : Excludes (said_of said_request) read_request
requests_exclude = excludes (said_of said_request) (requests Open)

pub replies_exclude : Excludes said read_reply
replies_exclude = excludes said replies

-- events, in both layouts
pub events_exclude : (l : Layout) → Excludes (said_of said_event) (read_event (width_of l))
events_exclude l = excludes (said_of said_event) (published l)
