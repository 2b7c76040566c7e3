mod Fails
