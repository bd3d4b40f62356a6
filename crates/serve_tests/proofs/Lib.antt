mod WrongSeats
