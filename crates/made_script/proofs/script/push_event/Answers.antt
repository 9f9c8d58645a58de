use Rattle.std.proofs.Common.{◌/◌, rules, subst}
use Rattle.net_wire.specs.declared.dhcp.DhcpMessageType.TheVariants.{Offer, Ack}
use Rattle.host_model.specs.declared.words.EventWords.{EventWords}
use Rattle.made_script.specs.Made.{words_of_start, words_of_asking}
use Rattle.made_script.specs.Server.{IsFromServer, grant_datagram, response_datagram, request_by}
use Rattle.made_script.proofs.MadeLemmas.{on_ok, made_frame, made_query, answers}
use Rattle.made_script.proofs.script.push_event.Goals as goal

pub returns-in-1 : goal.returns-in-1
returns-in-1 c =
    let P : EventWords → Type 0 = λ words. IsFromServer (grant_datagram Offer words.first) c.grant_frame.result in
    record {
      ok = on_ok c.push_frame.result
          (made_frame c.args.words.now c.args.place 1 _ _ c.grant_frame.result
          (grant_datagram Offer (words_of_start c.args.words.now (c.args.place / 100)).first) c.in-1.is (λ brings. brings)
          (subst P c.words_at.ensures c.grant_frame.ensures) (search rules)) c.push_frame.ensures.ok;
    }

pub returns-in-2 : goal.returns-in-2
returns-in-2 c =
    let P : EventWords → Type 0 = λ words. IsFromServer (grant_datagram Ack words.first) c.grant_frame-in-2.result in
    record {
      ok = on_ok c.push_frame-in-2.result
          (made_frame c.args.words.now c.args.place 2 _ _ c.grant_frame-in-2.result
          (grant_datagram Ack (words_of_start c.args.words.now (c.args.place / 100)).first) c.in-2.is (λ brings. brings)
          (subst P c.words_at-in-2.ensures c.grant_frame-in-2.ensures) (search rules)) c.push_frame-in-2.ensures.ok;
    }

pub returns-in-4 : goal.returns-in-4
returns-in-4 c = record { ok = on_ok _ (made_query c.args.words.now c.args.place _ _ c.in-4.is) c.push_query.ensures.ok }

pub returns-in-5 : goal.returns-in-5
returns-in-5 c =
    let P : EventWords → Type 0 = λ words. IsFromServer (response_datagram (request_by words)) c.response_frame.result in
    record {
      ok = on_ok c.push_frame-in-5.result
          (made_frame c.args.words.now c.args.place 5 _ _ c.response_frame.result
          (response_datagram (request_by (words_of_asking c.args.words.now (c.args.place / 100)))) c.in-5.is
          (answers c.args.words.now (c.args.place / 100) c.response_frame.result c.if-round-eq1.true)
          (subst P c.words_at-in-5.ensures c.response_frame.ensures) (search rules)) c.push_frame-in-5.ensures.ok;
    }
